-- Elements drawn one after the other. Assumes nothing.
use Rattle.std.proofs.Common.{◌≡◌, ℕ, ◌+◌, ◌<◌, ◌≤◌, true, List, [], ◌∷◌, length, get_or, drop, Some, None, Ok, Err, Option, sym, refl, ap, ◌∙◌, arith}
use Rattle.std.proofs.lemmas.List.{drop_more, drop_all}
use Rattle.monoid.specs.declared.path.PathTag.{PathTag}
use Rattle.encoding.specs.declared.encoding.Encoding.{Encoding}
use Rattle.values.specs.declared.element.PathEl.{PathEl}
use Rattle.values.specs.declared.element.PathEl.TheVariants.{MoveTo, LineTo, QuadTo, CurveTo, ClosePath}
use Rattle.values.specs.declared.error.Stream.{Stream}
use Rattle.values.specs.declared.error.Stream.TheVariants.{PathTags, PathData, DrawTags, DrawData, Transforms, Styles}
use Rattle.values.specs.declared.error.EncodeError.{EncodeError}
use Rattle.values.specs.Streams.{room}
use Rattle.values.specs.Errors.{short, full, or_else, told}
use Rattle.encoding.specs.Sheet.{Streams, Sheet, used_in, space_in, with_paths}
use Rattle.encoding.specs.Promises.{Rule, Answered, rooms, reason, left_by}
use Rattle.encoding.specs.Paths.{path_abandoned, finish_rule}
use Rattle.encoding.specs.Elements.{element_rule, after_elements, placed, first_placed, list_reason, list_leaves, all_told, DrawnOut}

-- a reason depends on how long the streams are, and on nothing else of them
module _ (m : Streams) (ts us : List PathTag) (ws vs : List ℕ) (same-tags : length ts ≡ length us) (same-words : length ws ≡ length vs) where
  space-same : (x : Stream) → space_in (with_paths m ts ws) x ≡ space_in (with_paths m us vs) x
  space-same PathTags = same-tags
  space-same PathData = same-words
  space-same DrawTags = refl
  space-same DrawData = refl
  space-same Transforms = refl
  space-same Styles = refl

  rooms_same : (xs : List Stream) (s : Sheet) → rooms xs s (with_paths m ts ws) ≡ rooms xs s (with_paths m us vs)
  rooms_same [] s = refl
  rooms_same (x ∷ xs) s = λ i. room x (used_in s x) (space-same x i) ∷ rooms_same xs s i

  pub reason-same : {V : Type 0} (k : Rule V) (s : Sheet) → reason k s (with_paths m ts ws) ≡ reason k s (with_paths m us vs)
  reason-same k s = λ i. or_else (short (rooms_same k.on s i)) (or_else (k.own s) (full (rooms_same k.on (k.next s) i)))

-- the answers of an accepted and of a declined call

by_answer : {V : Type 0} (o : Option EncodeError) (v w : V) → Ok w ≡ told o v → (o ≡ None) × (w ≡ v)
by_answer None v w h = (refl, cc)
by_answer (Some e) v w h = let z : ◌≡◌ {A = ℕ} 0 1 = cc in absurd (omega arith)

pub by_refusal : {V : Type 0} (o : Option EncodeError) (v : V) (e : EncodeError) → Err e ≡ told o v → o ≡ Some e
by_refusal None v e h = let z : ◌≡◌ {A = ℕ} 0 1 = cc in absurd (omega arith)
by_refusal (Some x) v e h = cc

pub took : {V : Type 0} (k : Rule V) (s : Sheet) (m : Streams) (v : V) (s' : Sheet) → Answered k s m (Ok v) s' → (reason k s m ≡ None) × (s' ≡ k.next s) × (v ≡ k.answer s)
took k s m v s' a =
    let h = by_answer (reason k s m) (k.answer s) v a.says in
    (h.0, a.leaves ∙ ap (λ o. left_by o s (k.next s)) h.0, h.1)

pub refused : {V : Type 0} (k : Rule V) (s : Sheet) (m : Streams) (e : EncodeError) (s' : Sheet) → Answered k s m (Err e) s' → (reason k s m ≡ Some e) × (s' ≡ s)
refused k s m e s' a =
    let h = by_refusal (reason k s m) (k.answer s) e a.says in
    (h, a.leaves ∙ ap (λ o. left_by o s (k.next s)) h)

-- an element leaves what was there at `encode_path`
shut_element : (x : PathEl) (s : Sheet) → path_abandoned ((element_rule x).next s) ≡ path_abandoned s
shut_element (MoveTo a b) s = refl
shut_element (LineTo a b) s = refl
shut_element (QuadTo a b c d) s = refl
shut_element (CurveTo a b c d e f) s = refl
shut_element ClosePath s = refl

-- i of the elements are drawn: s stands where s₀ stood, over streams as long as m₀
pub record Along (xs : List PathEl) (i : ℕ) (s₀ : Sheet) (m₀ : Streams) (s : Sheet) : Type 0 where
  pub why : list_reason xs 0 s₀ m₀ ≡ list_reason (drop i xs) i s m₀
  pub rest : after_elements xs s₀ ≡ after_elements (drop i xs) s
  pub shut : path_abandoned s ≡ path_abandoned s₀

module _ (xs : List PathEl) (i : ℕ) (x d : PathEl) (less : i < length xs) (at : get_or xs i d ≡ x) (s₀ : Sheet) (m₀ : Streams) (s : Sheet) (a : Along xs i s₀ m₀ s) where
  next-is : drop i xs ≡ x ∷ drop (i + 1) xs
  next-is = drop_more xs i d less ∙ ap (λ y. y ∷ drop (i + 1) xs) at

  why-here : list_reason xs 0 s₀ m₀ ≡ first_placed (placed i (reason (element_rule x) s m₀)) (list_reason (drop (i + 1) xs) (i + 1) ((element_rule x).next s) m₀)
  why-here = a.why ∙ ap (λ ys. list_reason ys i s m₀) next-is

  pub along-more : (s' : Sheet) → reason (element_rule x) s m₀ ≡ None → s' ≡ (element_rule x).next s → Along xs (i + 1) s₀ m₀ s'
  along-more s' none is = record {
    why = why-here ∙ ap (λ o. first_placed (placed i o) (list_reason (drop (i + 1) xs) (i + 1) ((element_rule x).next s) m₀)) none ∙ ap (λ z. list_reason (drop (i + 1) xs) (i + 1) z m₀) (sym is);
    rest = a.rest ∙ ap (λ ys. after_elements ys s) next-is ∙ ap (after_elements (drop (i + 1) xs)) (sym is);
    shut = ap path_abandoned is ∙ shut_element x s ∙ a.shut;
  }

  pub stopped : (e : EncodeError) → reason (element_rule x) s m₀ ≡ Some e → list_reason xs 0 s₀ m₀ ≡ Some (record { error = e; index = i })
  stopped e some = why-here ∙ ap (λ o. first_placed (placed i o) (list_reason (drop (i + 1) xs) (i + 1) ((element_rule x).next s) m₀)) some

module _ (xs : List PathEl) (i : ℕ) (s₀ : Sheet) (m₀ : Streams) (s : Sheet) (a : Along xs i s₀ m₀ s) where
  -- a step was declined, and the Encoding is given back
  pub given-up : (e : EncodeError) (n : ℕ) (b : Encoding) (s' : Sheet) → list_reason xs 0 s₀ m₀ ≡ Some (record { error = e; index = n }) → s' ≡ path_abandoned s → DrawnOut xs s₀ m₀ (Err (record { error = e; index = n }, b)) s'
  given-up e n b s' why is = record {
    says = ap (λ o. all_told o ((finish_rule true).answer (after_elements xs s₀))) (sym why);
    leaves = is ∙ a.shut ∙ ap (λ o. list_leaves o (path_abandoned s₀) ((finish_rule true).next (after_elements xs s₀))) (sym why);
  }

  module _ (done : length xs ≤ i) where
    all_done : drop i xs ≡ []
    all_done = drop_all i xs done

    why-last : list_reason xs 0 s₀ m₀ ≡ placed i (reason (finish_rule true) s m₀)
    why-last = a.why ∙ ap (λ ys. list_reason ys i s m₀) all_done

    last-is : after_elements xs s₀ ≡ s
    last-is = a.rest ∙ ap (λ ys. after_elements ys s) all_done

    pub finish-stopped : (e : EncodeError) → reason (finish_rule true) s m₀ ≡ Some e → list_reason xs 0 s₀ m₀ ≡ Some (record { error = e; index = i })
    finish-stopped e some = why-last ∙ ap (placed i) some

    pub finished-so : (b : Encoding) (n : ℕ) (s' : Sheet) → reason (finish_rule true) s m₀ ≡ None → s' ≡ (finish_rule true).next s → n ≡ (finish_rule true).answer s → DrawnOut xs s₀ m₀ (Ok (b, n)) s'
    finished-so b n s' none is count =
        let why = why-last ∙ ap (placed i) none in
        record {
          says = ap Ok (count ∙ ap (finish_rule true).answer (sym last-is)) ∙ ap (λ o. all_told o ((finish_rule true).answer (after_elements xs s₀))) (sym why);
          leaves = is ∙ ap (finish_rule true).next (sym last-is) ∙ ap (λ o. list_leaves o (path_abandoned s₀) ((finish_rule true).next (after_elements xs s₀))) (sym why);
        }
