-- Entries that are read by a count, and tables that are filled by counting. Assumes nothing.
use Rattle.std.proofs.Common.{◌≡◌, ℕ, zero, suc, ◌+◌, ◌-◌, ◌<◌, ◌≤◌, Bool, true, false, cond, not, eqb, List, [], ◌∷◌, length, get_or, take, drop, set, Some, None, Option, sym, refl, ap, ◌∙◌, subst, inl, inr, arith, length-set, length-take, take_all, take-add, rules}
use Rattle.std.specs.Array.{IsFromFnResult, IsFromFnResultFrom}
use Rattle.std.specs.Fn.{Called}
use denote.Param.Members.{Mut}
use Rattle.std.proofs.lemmas.List.{get_or_default, get_or-set_same, get_or-set_other}
use Rattle.std.proofs.lemmas.Bool.{cases_eq, cases_lt}
use Rattle.monoid.specs.declared.path.PathTag.{PathTag}
use Rattle.monoid.specs.declared.draw.DrawTag.{DrawTag}
use Rattle.monoid.specs.Answers.{most}
use Rattle.monoid.specs.Laws.{Laws}
use Rattle.monoid.specs.PathTags.{Counts, plus, from_tag, from_word, segment_type, is_segment, Small}
use Rattle.monoid.specs.DrawTags as Draws
use Rattle.monoid.specs.Packing.{blank, word}
use Rattle.monoid.proofs.Reducing.{reduced-append, reduced-more}
use Rattle.monoid.proofs.Packs.{plus_laws, packed-counts}
use Rattle.monoid.specs.Bounds.{draws_few, tags_few}
use Rattle.replay.specs.Wanted.{counted, drawn_total, words_in}
use Rattle.values.specs.declared.transform.Transform.{Transform}
use Rattle.values.specs.declared.style.Style.{Style}
use Rattle.replay.specs.declared.reader.ShownSegment.{ShownSegment}
use Rattle.replay.specs.declared.reader.ShownCommand.{ShownCommand}
use Rattle.replay.specs.Reading.{filled, eight_at, segment-at, command_at, SegmentsRead, CommandsRead}
use Rattle.replay.proofs.Shown.{total}
use Rattle.replay.proofs.Backward.{log-read, commands-logged}

-- calls that leave the callee as it is gave the value of each number
gave_each : {F : Type 0} (g : Mut F (ℕ × Unit {0}) ℕ) (v : ℕ → ℕ) (f : F) → ((i y : ℕ) (f' : F) → Called g f (i, tt) y f' → (y ≡ v i) × (f' ≡ f)) → (ys : List ℕ) (i n : ℕ) → IsFromFnResultFrom g f ys i n → (j : ℕ) → j < n → get_or ys (i + j) 0 ≡ v (i + j)
gave_each g v f same ys i zero h j l = absurd (omega arith)
gave_each g v f same ys i (suc n) h zero l =
    let e : i + 0 ≡ i = omega arith in
    subst (λ k. get_or ys k 0 ≡ v k) (sym e) (h.2.1 0 ∙ (same i h.1 h.0 h.3).0)
gave_each g v f same ys i (suc n) h (suc j) l =
    let e : i + 1 + j ≡ i + suc j = omega arith in
    let s = same i h.1 h.0 h.3 in
    subst (λ k. get_or ys k 0 ≡ v k) e (gave_each g v f same ys (i + 1) n (subst (λ x. IsFromFnResultFrom g x ys (i + 1) n) s.1 h.4) j (omega arith))

row_filled : (k : ℕ) (ys xs : List ℕ) → length ys ≡ k → ((i : ℕ) → i < k → get_or ys i 0 ≡ get_or xs i 0) → ys ≡ filled k xs
row_filled zero [] xs n h = refl
row_filled zero (y ∷ ys) xs n h = absurd (omega arith)
row_filled (suc k) [] xs n h = absurd (omega arith)
row_filled (suc k) (y ∷ ys) [] n h = (λ i. h 0 (omega arith) i ∷ row_filled k ys [] (omega arith) (λ j l. h (suc j) (omega arith)) i)
row_filled (suc k) (y ∷ ys) (x ∷ xs) n h = (λ i. h 0 (omega arith) i ∷ row_filled k ys xs (omega arith) (λ j l. h (suc j) (omega arith)) i)

pub row_of_calls : {F : Type 0} (g : Mut F (ℕ × Unit {0}) ℕ) (f : F) (ys xs : List ℕ) → ((i y : ℕ) (f' : F) → Called g f (i, tt) y f' → (y ≡ get_or xs i 0) × (f' ≡ f)) → IsFromFnResult g f ys 8 → ys ≡ filled 8 xs
row_of_calls g f ys xs same h =
    row_filled 8 ys xs h.long (λ i l.
    let e : 0 + i ≡ i = omega arith in
    subst (λ k. get_or ys k 0 ≡ get_or xs k 0) e (gave_each g (λ k. get_or xs k 0) f same ys 0 8 h.each i l))

-- rows are filled one after the other: each has what P says of its number, and those past them are as they were
pub record Filled {R : Type 0} (P : ℕ → R → Type 0) (was rows : List R) (n : ℕ) : Type 0 where
  pub each : (j : ℕ) → j < n → j < length was → (d : R) → P j (get_or rows j d)
  pub rest : (j : ℕ) → n ≤ j → (d : R) → get_or rows j d ≡ get_or was j d
  pub size : length rows ≡ length was

module _ {R : Type 0} (P : ℕ → R → Type 0) (was rows : List R) (n : ℕ) (x : R) (f : Filled P was rows n) where
  each_more : P n x → (j : ℕ) → j < n + 1 → j < length was → (d : R) → P j (get_or (set rows n x) j d)
  each_more p j h l d =
      elim (cases_eq j n) [
        | inl e ↦ subst (λ k. P k (get_or (set rows n x) k d)) (sym e) (subst (P n) (sym (get_or-set_same rows n x d (omega (arith, f.size)))) p)
        | inr e ↦ subst (P j) (sym (get_or-set_other rows n j x d e)) (f.each j (omega arith) l d)
      ]

  pub filled_more : P n x → Filled P was (set rows n x) (n + 1)
  filled_more p = record {
    each = each_more p;
    rest = λ j h d. get_or-set_other rows n j x d (λ e. omega arith) ∙ f.rest j (omega arith) d;
    size = length-set rows n x ∙ f.size;
  }

-- draw tags

pub draw_laws : Laws Draws.none Draws.plus
draw_laws = search rules

module _ (ts : List DrawTag) (i : ℕ) (d : DrawTag) (l : i < length ts) (c : Draws.Draws) (is : c ≡ drawn_total (take i ts)) where
  pub draws-more : Draws.plus c (Draws.from_tag (get_or ts i d)) ≡ drawn_total (take (i + 1) ts)
  draws-more = reduced-more draw_laws Draws.from_tag ts i l (get_or_default ts i d _ l) is refl

  pub draws-fit : length ts ≤ most → Draws.Small (Draws.plus c (Draws.from_tag (get_or ts i d)))
  draws-fit few =
      let k = draws_few (take (i + 1) ts) in
      let n : length (take (i + 1) ts) ≤ most = simp length-take (omega arith) in
      subst Draws.Small (sym draws-more) (omega arith, omega arith, omega arith, omega arith)

-- path tags

-- a tag alone in a word
pub alone : (t : PathTag) → t.0 < 256 → from_word t.0 ≡ from_tag t
alone t h =
    let same : t.0 ≡ word t blank blank blank = omega arith in
    ap from_word same ∙ sym (plus_laws.right (from_word (word t blank blank blank))) ∙ packed-counts (t ∷ []) ∙ plus_laws.right (from_tag t)

module _ (ts : List PathTag) (i : ℕ) (d : PathTag) (l : i < length ts) (c : Counts) (is : c ≡ total (take i ts)) where
  pub tags_more : plus c (from_tag (get_or ts i d)) ≡ total (take (i + 1) ts)
  tags_more = reduced-more plus_laws from_tag ts i l (get_or_default ts i d _ l) is refl

  pub tags-fit : length ts ≤ most → Small (plus c (from_tag (get_or ts i d)))
  tags-fit few =
      let k = tags_few (take (i + 1) ts) in
      let n : length (take (i + 1) ts) ≤ most = simp length-take (omega arith) in
      subst Small (sym tags_more) (omega arith, omega arith, omega arith, omega arith, omega arith)

-- what the row of a draw tag has, and that of a segment, whatever place it stands at

abbrev pub CommandRow : List DrawTag → List ℕ → ℕ → ShownCommand → Type 0
CommandRow ts ws k r = (e : DrawTag) → k < length ts → r ≡ command_at ws (drawn_total (take k ts)).words (get_or ts k e)

abbrev pub SegmentRow : List PathTag → List ℕ → List Transform → List Style → ℕ → ShownSegment → Type 0
SegmentRow ts ws tr st j r = (k : ℕ) → k < length ts → is_segment (get_or ts k blank) ≡ true → (total (take k ts)).segments ≡ j → r ≡ segment-at ws tr st (total (take k ts)) (get_or ts k blank)

pub command_row : (ts : List DrawTag) (ws : List ℕ) (i : ℕ) (d : DrawTag) (c : Draws.Draws) (eight : List ℕ) → c ≡ drawn_total (take i ts) → eight ≡ eight_at ws c.words (words_in (get_or ts i d)) → CommandRow ts ws i (record { tag = get_or ts i d; words = eight })
command_row ts ws i d c eight is e f l =
    let same = get_or_default ts i d f l in
    (λ k. record { tag = get_or ts i d; words = e k }) ∙ (λ k. command_at ws (is k).words (same k))

-- segments are counted upwards
mono : (ts : List PathTag) (k j : ℕ) → (total (take k ts)).segments ≤ (total (take (k + j) ts)).segments
mono ts k j =
    let e : total (take (k + j) ts) ≡ plus (total (take k ts)) (total (take j (drop k ts))) = ap total (take-add k j ts) ∙ reduced-append plus_laws from_tag (take k ts) (take j (drop k ts)) in
    let s : (total (take (k + j) ts)).segments ≡ (total (take k ts)).segments + (total (take j (drop k ts))).segments = ap (λ (c : Counts). c.segments) e in
    omega arith

tags-step : (ts : List PathTag) (k : ℕ) → k < length ts → plus (total (take k ts)) (from_tag (get_or ts k blank)) ≡ total (take (k + 1) ts)
tags-step ts k l = tags_more ts k blank l (total (take k ts)) refl

a-segment : (z : Bool) → not z ≡ true → ◌≡◌ {A = ℕ} (cond z 0 1) 1
a-segment true h = let q : ◌≡◌ {A = ℕ} 0 1 = cc in absurd (omega arith)
a-segment false h = refl

no_segment : (z : Bool) → not z ≡ false → ◌≡◌ {A = ℕ} (cond z 0 1) 0
no_segment true h = refl
no_segment false h = let q : ◌≡◌ {A = ℕ} 0 1 = cc in absurd (omega arith)

one_more : (ts : List PathTag) (k : ℕ) → k < length ts → is_segment (get_or ts k blank) ≡ true → (total (take (k + 1) ts)).segments ≡ (total (take k ts)).segments + 1
one_more ts k l s =
    let e = ap (λ (c : Counts). c.segments) (sym (tags-step ts k l)) in
    let one : (from_tag (get_or ts k blank)).segments ≡ 1 = a-segment (eqb (segment_type (get_or ts k blank)) 0) s in
    omega arith

pub before_last : (ts : List PathTag) (k : ℕ) → k < length ts → is_segment (get_or ts k blank) ≡ true → (total (take k ts)).segments < (total ts).segments
before_last ts k l s =
    let a = one_more ts k l s in
    let b = mono ts (k + 1) (length ts - (k + 1)) in
    let all : take (k + 1 + (length ts - (k + 1))) ts ≡ ts = take_all _ ts (omega arith) in
    let c = ap (λ xs. (total xs).segments) all in
    omega arith

-- two places with as many segments before them are the same
same_place : (ts : List PathTag) (i k : ℕ) → i < length ts → k < length ts → is_segment (get_or ts i blank) ≡ true → is_segment (get_or ts k blank) ≡ true → (total (take k ts)).segments ≡ (total (take i ts)).segments → k ≡ i
same_place ts i k li lk si sk e =
    elim (cases_lt k i) [
      | inl h ↦
          let a = one_more ts k lk sk in
          let b = mono ts (k + 1) (i - (k + 1)) in
          let n : k + 1 + (i - (k + 1)) ≡ i = omega arith in
          let c = ap (λ x. (total (take x ts)).segments) n in
          absurd (omega arith)
      | inr h ↦
          elim (cases_lt i k) [
            | inl g ↦
                let a = one_more ts i li si in
                let b = mono ts (i + 1) (k - (i + 1)) in
                let n : i + 1 + (k - (i + 1)) ≡ k = omega arith in
                let c = ap (λ x. (total (take x ts)).segments) n in
                absurd (omega arith)
            | inr g ↦ omega arith
          ]
    ]

pub segment-row : (ts : List PathTag) (ws : List ℕ) (tr : List Transform) (st : List Style) (i : ℕ) (c : Counts) (r : ShownSegment) → i < length ts → is_segment (get_or ts i blank) ≡ true → c ≡ total (take i ts) → r ≡ segment-at ws tr st c (get_or ts i blank) → SegmentRow ts ws tr st c.segments r
segment-row ts ws tr st i c r l s is e k lk sk same =
    let at : k ≡ i = same_place ts i k l lk s sk (same ∙ ap (λ (x : Counts). x.segments) is) in
    e ∙ (λ j. segment-at ws tr st (is j) (get_or ts i blank)) ∙ sym (λ j. segment-at ws tr st (total (take (at j) ts)) (get_or ts (at j) blank))

none_more : (ts : List PathTag) (k : ℕ) → k < length ts → is_segment (get_or ts k blank) ≡ false → (total (take (k + 1) ts)).segments ≡ (total (take k ts)).segments
none_more ts k l s =
    let e = ap (λ (c : Counts). c.segments) (sym (tags-step ts k l)) in
    let none_here : (from_tag (get_or ts k blank)).segments ≡ 0 = no_segment (eqb (segment_type (get_or ts k blank)) 0) s in
    omega arith

-- one path tag more: its row, if it is a segment's
abbrev pub written : Option ShownSegment → ℕ → List ShownSegment → List ShownSegment
written None j rows = rows
written (Some r) j rows = set rows j r

module _ (ts : List PathTag) (ws : List ℕ) (tr : List Transform) (st : List Style) (was rows : List ShownSegment) (i : ℕ) (l : i < length ts) (c : Counts) (is : c ≡ total (take i ts)) (f : Filled (SegmentRow ts ws tr st) was rows (total (take i ts)).segments) where
  abbrev n : ℕ
  n = (total (take i ts)).segments

  abbrev r : ShownSegment
  r = segment-at ws tr st c (get_or ts i blank)

  row_at : c.segments ≡ n
  row_at = ap (λ (x : Counts). x.segments) is

  by-tag : (b : Bool) → is_segment (get_or ts i blank) ≡ b → Filled (SegmentRow ts ws tr st) was (written (cond b (Some r) None) c.segments rows) (total (take (i + 1) ts)).segments
  by-tag true s =
      subst (Filled (SegmentRow ts ws tr st) was (set rows c.segments r)) (sym (one_more ts i l s))
      (subst (λ k. Filled (SegmentRow ts ws tr st) was (set rows k r) (n + 1)) (sym row_at)
      (filled_more (SegmentRow ts ws tr st) was rows n r f (subst (λ k. SegmentRow ts ws tr st k r) row_at (segment-row ts ws tr st i c r l s is refl))))
  by-tag false s = subst (Filled (SegmentRow ts ws tr st) was rows) (sym (none_more ts i l s)) f

  pub segments-more : (o : Option ShownSegment) → o ≡ cond (is_segment (get_or ts i blank)) (Some r) None → (rows' : List ShownSegment) → rows' ≡ written o c.segments rows → Filled (SegmentRow ts ws tr st) was rows' (total (take (i + 1) ts)).segments
  segments-more o e rows' h =
      subst (λ z. Filled (SegmentRow ts ws tr st) was z (total (take (i + 1) ts)).segments) (sym (h ∙ ap (λ x. written x c.segments rows) e)) (by-tag (is_segment (get_or ts i blank)) refl)

pub segments-done : (ts : List PathTag) (ws : List ℕ) (tr : List Transform) (st : List Style) (was rows : List ShownSegment) (n : ℕ) → length ts ≤ most → n ≡ (total ts).segments → Filled (SegmentRow ts ws tr st) was rows (total ts).segments → SegmentsRead ts ws tr st was rows n
segments-done ts ws tr st was rows n few is f = record {
  few = few;
  number = is ∙ ap (λ (c : Counts). c.segments) (sym (packed-counts ts));
  each = each;
  rest = λ j h d. f.rest j (subst (λ z. z ≤ j) is h) d;
  logged = log-read ts ws tr st was rows each;
}
  where
    each : (k : ℕ) → k < length ts → is_segment (get_or ts k blank) ≡ true → (counted (take k ts)).segments < length was → (d : ShownSegment) → get_or rows (counted (take k ts)).segments d ≡ segment-at ws tr st (counted (take k ts)) (get_or ts k blank)
    each k l s lt d =
        let same : total (take k ts) ≡ counted (take k ts) = sym (packed-counts (take k ts)) in
        subst (λ (c : Counts). get_or rows c.segments d ≡ segment-at ws tr st c (get_or ts k blank)) same
        (f.each (total (take k ts)).segments (before_last ts k l s) (subst (λ (c : Counts). c.segments < length was) (sym same) lt) d k l s refl)

pub commands-done : (ts : List DrawTag) (ws : List ℕ) (was rows : List ShownCommand) (n : ℕ) → length ts ≤ most → length ts ≤ n → n ≤ length ts → Filled (CommandRow ts ws) was rows n → CommandsRead ts ws was rows (length ts)
commands-done ts ws was rows n few most-of least-of f = record {
  few = few;
  number = refl;
  each = each;
  rest = λ j h d. f.rest j (omega arith) d;
  logged = commands-logged ts ws was rows each;
}
  where
    each : (k : ℕ) → k < length ts → k < length was → (d : ShownCommand) (e : DrawTag) → get_or rows k d ≡ command_at ws (drawn_total (take k ts)).words (get_or ts k e)
    each k l lt d e = f.each k (omega arith) lt d e l

pub few-segments : (ts : List PathTag) (i n : ℕ) → length ts ≤ most → n ≡ (total (take i ts)).segments → n ≤ most
few-segments ts i n few is =
    let k = tags_few (take i ts) in
    let m : length (take i ts) ≤ most = simp length-take (omega arith) in
    omega arith
