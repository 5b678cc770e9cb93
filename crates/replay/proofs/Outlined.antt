-- The path tags with what they count and show, one more call at a time. Assumes nothing.
use Rattle.std.proofs.Common.{◌≡◌, ℕ, ◌+◌, ◌*◌, ◌/◌, ◌<◌, Bool, true, false, T, eqb, List, [], ◌∷◌, ◌++◌, length, drop, Some, None, Option, sym, refl, ap, ◌∙◌, subst, arith, length-append}
use lib.Ieee.{Float, binary32, fits, of_bits, to_bits}
use lib.Ieee.Bits.{of_bits-to_bits}
use Rattle.std.specs.Float.{float_is_finite}
use Rattle.std.proofs.Math.Seq.{drop-append-add}
use Rattle.std.proofs.lemmas.List.{append-nil}
use Rattle.std.proofs.lemmas.Bool.{eqb-true, and_parts, or_parts, not-false}
use Rattle.geometry.specs.Numbers.{same_number}
use Rattle.geometry.proofs.Compared.{compares}
use Rattle.monoid.specs.declared.path.PathTag.{PathTag}
use Rattle.monoid.specs.PathTags.{Counts, none, plus, from_tag}
use Rattle.monoid.proofs.Reducing.{reduced-append}
use Rattle.monoid.proofs.Packs.{plus_laws}
use Rattle.path.specs.Rules.{Own}
use Rattle.path.specs.Turns.{pieces}
use Rattle.values.specs.declared.transform.Transform.{Transform}
use Rattle.values.specs.declared.style.Fill.{Fill}
use Rattle.values.specs.declared.style.Fill.TheVariants.{NonZero, EvenOdd}
use Rattle.values.specs.declared.style.Stroke.{Stroke}
use Rattle.values.specs.declared.style.Style.{Style}
use Rattle.values.specs.Streams.{last_of}
use Rattle.values.specs.Settings.{no_width, same_transform, same_style, other, is_new, fill_bits, stroke_style}
use Rattle.path.specs.Entries.{path_tag}
use Rattle.encoding.specs.Tags.{style_tag, transform_tag}
use Rattle.replay.specs.Calls.{Chosen}
use Rattle.replay.specs.Calls.Chosen.{Filled, Stroked}
use Rattle.replay.specs.Log.{Segment, styled}
use Rattle.replay.specs.Wanted.{StyleOf, StyledAs, MovedAs, last_counted}
use Rattle.replay.proofs.Lists.{counted_last, last_snoc}
use Rattle.replay.proofs.Shown.{Store, total, grown, Reads, reads_++, reads-grown, Around}
use Rattle.replay.proofs.Pieces.{AllGood, reads-pieces}

-- a stroke's width is a finite f32 and not zero
pub record Wide (k : Stroke) : Type 0 where
  pub single : T (fits binary32 k.width)
  pub bounded : T (float_is_finite k.width)
  pub not_zero : same_number k.width no_width ≡ false

abbrev pub Proper : Option Chosen → Type 0
Proper None = Unit {0}
Proper (Some (Filled f)) = Unit {0}
Proper (Some (Stroked k)) = Wide k

abbrev pub numbers : Store → ℕ → ℕ → Counts
numbers r p n = record { transforms = length r.transforms; segments = n; words = length r.words; styles = 2 * length r.styles; paths = p }

pub record Outlined (ts : List PathTag) (r : Store) (p n : ℕ) (xs : List Segment) (sty : Option Chosen) (tra : Option Transform) : Type 0 where
  pub totals : total ts ≡ numbers r p n
  pub reads : Reads r none ts xs
  pub style : StyledAs (last_of r.styles) sty
  pub transform : MovedAs (last_of r.transforms) tra
  pub proper : Proper sty

abbrev pub no_entries : Store
no_entries = record { words = []; transforms = []; styles = [] }

pub outlined-none : Outlined [] no_entries 0 0 [] None None
outlined-none = record { totals = refl; reads = refl; style = tt; transform = tt; proper = tt }

same-counts : {a b : Counts} → a.transforms ≡ b.transforms → a.segments ≡ b.segments → a.words ≡ b.words → a.styles ≡ b.styles → a.paths ≡ b.paths → a ≡ b
same-counts p q r s t = λ i. record { transforms = p i; segments = q i; words = r i; styles = s i; paths = t i }

total_++ : (xs ys : List PathTag) → total (xs ++ ys) ≡ plus (total xs) (total ys)
total_++ xs ys = reduced-append plus_laws from_tag xs ys

module _ (ts : List PathTag) (r : Store) (p n : ℕ) (xs : List Segment) (sty : Option Chosen) (tra : Option Transform) (h : Outlined ts r p n xs sty tra) where
  -- the old tags read as before, and tags after them that are no segments
  more-reads : (t : PathTag) (ws : List ℕ) (tr : List Transform) (st : List Style) → Reads (grown r ws tr st) (plus none (total ts)) (t ∷ []) [] → Reads (grown r ws tr st) none (ts ++ t ∷ []) xs
  more-reads t ws tr st k =
      subst (λ l. Reads (grown r ws tr st) none (ts ++ t ∷ []) l) (append-nil xs) (reads_++ (grown r ws tr st) none ts (t ∷ []) xs [] (reads-grown r ws tr st none ts xs h.reads) k)

  pub outlined-mark : Outlined (ts ++ path_tag ∷ []) r (p + 1) n xs sty tra
  outlined-mark =
      let same : grown r [] [] [] ≡ r = λ i. record { words = append-nil r.words i; transforms = append-nil r.transforms i; styles = append-nil r.styles i } in
      record {
        totals = total_++ ts (path_tag ∷ []) ∙ ap (λ c. plus c (total (path_tag ∷ []))) h.totals ∙ same-counts (omega arith) (omega arith) (omega arith) (omega arith) (omega arith);
        reads = subst (λ q. Reads q none (ts ++ path_tag ∷ []) xs) same (more-reads path_tag [] [] [] refl);
        style = h.style;
        transform = h.transform;
        proper = h.proper;
      }

  pub outlined-style : (x : Style) (ch : Chosen) → StyleOf ch x → Proper (Some ch) → Outlined (ts ++ style_tag ∷ []) (record { words = r.words; transforms = r.transforms; styles = r.styles ++ x ∷ [] }) p n xs (Some ch) tra
  outlined-style x ch is good =
      let q : Store = record { words = r.words; transforms = r.transforms; styles = r.styles ++ x ∷ [] } in
      let same : grown r [] [] (x ∷ []) ≡ q = λ i. record { words = append-nil r.words i; transforms = append-nil r.transforms i; styles = r.styles ++ x ∷ [] } in
      record {
        totals = total_++ ts (style_tag ∷ []) ∙ ap (λ c. plus c (total (style_tag ∷ []))) h.totals ∙ same-counts (omega arith) (omega arith) (omega arith) (omega (arith, length-append r.styles (x ∷ []))) (omega arith);
        reads = subst (λ z. Reads z none (ts ++ style_tag ∷ []) xs) same (more-reads style_tag [] [] (x ∷ []) refl);
        style = subst (λ o. StyledAs o (Some ch)) (sym (last_snoc r.styles x)) is;
        transform = h.transform;
        proper = good;
      }

  pub outlined-transform : (x : Transform) → same_transform x x ≡ true → Outlined (ts ++ transform_tag ∷ []) (record { words = r.words; transforms = r.transforms ++ x ∷ []; styles = r.styles }) p n xs sty (Some x)
  outlined-transform x self =
      let q : Store = record { words = r.words; transforms = r.transforms ++ x ∷ []; styles = r.styles } in
      let same : grown r [] (x ∷ []) [] ≡ q = λ i. record { words = append-nil r.words i; transforms = r.transforms ++ x ∷ []; styles = append-nil r.styles i } in
      record {
        totals = total_++ ts (transform_tag ∷ []) ∙ ap (λ c. plus c (total (transform_tag ∷ []))) h.totals ∙ same-counts (omega (arith, length-append r.transforms (x ∷ []))) (omega arith) (omega arith) (omega arith) (omega arith);
        reads = subst (λ z. Reads z none (ts ++ transform_tag ∷ []) xs) same (more-reads transform_tag [] (x ∷ []) [] refl);
        style = h.style;
        transform = subst (λ o. MovedAs o (Some x)) (sym (last_snoc r.transforms x)) self;
        proper = h.proper;
      }

  pub outlined-same-style : (ch : Chosen) → StyledAs (last_of r.styles) (Some ch) → Proper (Some ch) → Outlined ts r p n xs (Some ch) tra
  outlined-same-style ch is good = record { totals = h.totals; reads = h.reads; style = is; transform = h.transform; proper = good }

  pub outlined-same-transform : (x : Transform) → MovedAs (last_of r.transforms) (Some x) → Outlined ts r p n xs sty (Some x)
  outlined-same-transform x is = record { totals = h.totals; reads = h.reads; style = h.style; transform = is; proper = h.proper }

  -- a path's tags and words
  pub outlined-path : (o : Own) (k : ℕ) → AllGood (pieces o.tags o.words) → total o.tags ≡ record { transforms = 0; segments = k; words = length o.words; styles = 0; paths = 0 } →
      Outlined (ts ++ o.tags) (record { words = r.words ++ o.words; transforms = r.transforms; styles = r.styles }) p (n + k) (xs ++ styled sty tra (pieces o.tags o.words)) sty tra
  outlined-path o k good counts =
      let q : Store = record { words = r.words ++ o.words; transforms = r.transforms; styles = r.styles } in
      let c = plus none (total ts) in
      let is : c ≡ numbers r p n = plus_laws.left (total ts) ∙ h.totals in
      let off : c.words ≡ length r.words + 0 = ap (λ d. d.words) is ∙ omega arith in
      let there : drop c.words q.words ≡ o.words = ap (λ j. drop j q.words) off ∙ drop-append-add r.words o.words 0 in
      let half : c.styles / 2 ≡ length r.styles = ap (λ d. d.styles / 2) is ∙ omega arith in
      let moved : c.transforms ≡ length r.transforms = ap (λ d. d.transforms) is in
      let around : Around q sty tra c = record {
        styled = omega (arith, half);
        style = subst (λ a. StyledAs a sty) (sym (ap (last_counted r.styles) half ∙ counted_last r.styles)) h.style;
        moved = omega (arith, moved);
        transform = subst (λ a. MovedAs a tra) (sym (ap (last_counted r.transforms) moved ∙ counted_last r.transforms)) h.transform;
      } in
      let old : Reads q none ts xs =
      subst (λ z. Reads z none ts xs) (λ i. record { words = r.words ++ o.words; transforms = append-nil r.transforms i; styles = append-nil r.styles i }) (reads-grown r o.words [] [] none ts xs h.reads) in
      let new = reads-pieces q sty tra o.tags c (subst (λ ws. AllGood (pieces o.tags ws)) (sym there) good) (omega (arith, off, length-append r.words o.words)) around in
      record {
        totals = total_++ ts o.tags ∙ (λ i. plus (h.totals i) (counts i)) ∙ same-counts (omega arith) refl (sym (length-append r.words o.words)) (omega arith) (omega arith);
        reads = reads_++ q none ts o.tags xs (styled sty tra (pieces o.tags o.words)) old (subst (λ ws. Reads q c o.tags (styled sty tra (pieces o.tags ws))) there new);
        style = h.style;
        transform = h.transform;
        proper = h.proper;
      }

-- nothing is written: the last entry is what was brought

one_float : (a b : Float) → T (fits binary32 a) → T (fits binary32 b) → to_bits binary32 a ≡ to_bits binary32 b → a ≡ b
one_float a b f g e = sym (of_bits-to_bits binary32 a f) ∙ ap (of_bits binary32) e ∙ of_bits-to_bits binary32 b g

small_fill : (f : Fill) → fill_bits f < 0x80000000
small_fill NonZero = omega arith
small_fill EvenOdd = omega arith

not_both : (f : Fill) (k : Stroke) (h : ℕ) → fill_bits f ≡ (stroke_style k h).flags_and_miter_limit → ⊥
not_both f k h e = let a = small_fill f in omega arith

same_of : (ch old : Chosen) (x a : Style) → StyleOf ch x → StyleOf old a → Proper (Some ch) → Proper (Some old) → a.flags_and_miter_limit ≡ x.flags_and_miter_limit → same_number a.line_width x.line_width ≡ true → a ≡ x
same_of (Filled f) (Filled g) x a p q u v e w =
    let width : a.line_width ≡ x.line_width = ap (λ (z : Style). z.line_width) q ∙ sym (ap (λ (z : Style). z.line_width) p) in
    λ i. record { flags_and_miter_limit = e i; line_width = width i }
same_of (Filled f) (Stroked k) x a p q u v e w =
    absurd (not_both f k q.0 (sym (ap (λ (z : Style). z.flags_and_miter_limit) p) ∙ sym e ∙ ap (λ (z : Style). z.flags_and_miter_limit) q.2))
same_of (Stroked k) (Filled f) x a p q u v e w =
    absurd (not_both f k p.0 (sym (ap (λ (z : Style). z.flags_and_miter_limit) q) ∙ e ∙ ap (λ (z : Style). z.flags_and_miter_limit) p.2))
same_of (Stroked k) (Stroked j) x a p q u v e w =
    let wa : a.line_width ≡ j.width = ap (λ (z : Style). z.line_width) q.2 in
    let wx : x.line_width ≡ k.width = ap (λ (z : Style). z.line_width) p.2 in
    let eq : same_number j.width k.width ≡ true = (λ i. same_number (sym wa i) (sym wx i)) ∙ w in
    let bits = compares.one_pattern j.width k.width v.single u.single v.bounded u.bounded v.not_zero eq in
    let width : a.line_width ≡ x.line_width = wa ∙ one_float j.width k.width v.single u.single bits ∙ sym wx in
    λ i. record { flags_and_miter_limit = e i; line_width = width i }

last_style : (o : Option Style) (old : Option Chosen) (ch : Chosen) (x : Style) → StyledAs o old → Proper old → StyleOf ch x → Proper (Some ch) → other same_style o x ≡ false → StyledAs o (Some ch)
last_style None old ch x s v is u e = let bad : ◌≡◌ {A = ℕ} 0 1 = cc in absurd (omega arith)
last_style (Some a) None ch x s v is u e = absurd s
last_style (Some a) (Some old) ch x s v is u e =
    let q = and_parts (eqb a.flags_and_miter_limit x.flags_and_miter_limit) (same_number a.line_width x.line_width) (not-false _ e) in
    let same = same_of ch old x a is s u v (eqb-true a.flags_and_miter_limit x.flags_and_miter_limit q.0) q.1 in
    subst (StyleOf ch) (sym same) is

pub style_stays : (force : Bool) (st : List Style) (old : Option Chosen) (ch : Chosen) (x : Style) → StyledAs (last_of st) old → Proper old → StyleOf ch x → Proper (Some ch) → is_new same_style force st x ≡ false → StyledAs (last_of st) (Some ch)
style_stays force st old ch x s v is u e = last_style (last_of st) old ch x s v is u (or_parts force (other same_style (last_of st) x) e).1

last_transform : (o : Option Transform) (x : Transform) → other same_transform o x ≡ false → MovedAs o (Some x)
last_transform None x e = let bad : ◌≡◌ {A = ℕ} 0 1 = cc in absurd (omega arith)
last_transform (Some a) x e = not-false (same_transform a x) e

pub transform_stays : (force : Bool) (tr : List Transform) (x : Transform) → is_new same_transform force tr x ≡ false → MovedAs (last_of tr) (Some x)
transform_stays force tr x e = last_transform (last_of tr) x (or_parts force (other same_transform (last_of tr) x) e).1
