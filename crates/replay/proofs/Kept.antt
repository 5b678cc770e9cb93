-- What every accepted call keeps between the sheet and the log. Assumes nothing.
use Rattle.std.proofs.Common.{◌≡◌, ℕ, ◌+◌, ◌<◌, Bool, true, false, cond, ◌&&◌, T, eqb, List, [], ◌∷◌, ◌++◌, length, Some, None, Option, sym, refl, ap, ◌∙◌, subst, arith, length-append, rules}
use lib.Ieee.{Float}
use Rattle.std.specs.Float.{float_is_finite}
use Rattle.std.proofs.lemmas.List.{append-nil, append_assoc}
use Rattle.std.proofs.lemmas.Bool.{cond_both, and_parts, eqb-true, eqb-false}
use Rattle.geometry.specs.Numbers.{all_finite, same_number}
use Rattle.geometry.proofs.Compared.{compares}
use Rattle.monoid.specs.declared.path.PathTag.{PathTag}
use Rattle.monoid.specs.declared.draw.DrawTag.{DrawTag}
use Rattle.monoid.specs.PathTags.{tag}
use Rattle.path.specs.Rules.{Own, Path, fresh, leave, finish, step}
use Rattle.path.specs.Subpaths.{LaidOut}
use Rattle.path.specs.Turns.{pieces}
use Rattle.path.proofs.Laying.{step-laid, laid_out}
use Rattle.path.proofs.Amounting.{amounts}
use Rattle.values.specs.declared.transform.Transform.{Transform}
use Rattle.values.specs.declared.style.Stroke.{Stroke}
use Rattle.values.specs.declared.style.Style.{Style}
use Rattle.values.specs.declared.error.EncodeError.{EncodeError}
use Rattle.values.specs.declared.error.EncodeError.TheVariants.{NotFinite, ZeroWidth}
use Rattle.values.specs.Errors.{when, unless, or_else, told}
use Rattle.values.specs.Settings.{no_width, same_transform, finite_transform, fill_style, stroke_style, stroke_error}
use Rattle.values.specs.declared.element.PathEl.{PathEl}
use Rattle.values.specs.declared.element.PathEl.TheVariants.{MoveTo, LineTo, QuadTo, CurveTo, ClosePath}
use Rattle.encoding.specs.Sheet as Sheets
use Rattle.encoding.specs.Sheet.{Used, Opened, Sheet, blank, with_open, with_drawn, with_outlines}
use Rattle.encoding.specs.Rules.{added, new_transform, transformed, new_style, styled, set_style, error_in, counting, drawing, clip_ended}
use Rattle.path.specs.Entries.{path_tag}
use Rattle.encoding.specs.Paths.{counted, outlined, ended, stepped, whole}
use Rattle.encoding.specs.Elements.{element_rule, after_elements, list_next, empty_shape_rule}
use Rattle.replay.specs.Calls.{Chosen, Command, Call, Strokes, Draws, FromRest, FromPath, From, Leaves, Made, taken, Ruled, RuledBy}
use Rattle.replay.specs.Calls.Chosen.{Filled, Stroked}
use Rattle.replay.specs.Calls.Command.{Color, Blurred, BeginClip, EndClip}
use Rattle.replay.specs.Calls.Call.{Reset, ForceNext, SetTransform, SetStyle, Draw, EmptyShape, Elements, OpenPath, Take, Finish, Abandon}
use Rattle.replay.specs.Log as Logs
use Rattle.replay.specs.Log.{Log, Segment, Entry, Commands, empty, close_latest, drawn, with_segments, with_path, step_of, drawn_in, noted, noted_by, logged}
use Rattle.replay.specs.Wanted.{StyleOf}
use Rattle.replay.proofs.Shown.{Store, total}
use Rattle.replay.proofs.Pieces.{AllGood, good_all}
use Rattle.replay.proofs.Outlined.{Wide, Proper, Outlined, outlined-none, outlined-mark, outlined-style, outlined-transform, outlined-same-style, outlined-same-transform, outlined-path, style_stays, transform_stays}
use Rattle.replay.proofs.Drawings.{Drawings, drawings-none, drawings-color, drawings-blurred, drawings-begin, drawings-end}

abbrev pub Laid : Option Path → Type 0
Laid None = Unit {0}
Laid (Some m) = LaidOut m

abbrev pub store : Sheet → Store
store s = record { words = s.outlines.words.entries; transforms = s.transforms.written.entries; styles = s.styles.written.entries }

abbrev pub SheetOutlined : Sheet → Log → Type 0
SheetOutlined s l = Outlined s.tags.entries (store s) s.outlines.paths s.outlines.segments l.segments l.style l.transform

abbrev Even : {X : Type 0} → Used X → Type 0
Even u = u.count ≡ length u.entries

-- the counts of used entries are theirs
pub record Counted (s : Sheet) : Type 0 where
  pub words : Even s.outlines.words
  pub transforms : Even s.transforms.written
  pub styles : Even s.styles.written

pub record Drew (d : Sheets.Drawn) (c : Commands) : Type 0 where
  pub words : Even d.words
  pub drawings : Drawings d.tags.entries d.words.entries d.clips d.open_clips c.entries c.begun

pub record KeptAt (s : Sheet) (l : Log) : Type 0 where
  pub counted : Counted s
  pub outlined : SheetOutlined s l
  pub drew : Drew s.drawn l.commands

abbrev path_in : Option Opened → Option Path
path_in None = None
path_in (Some o) = Some o.path

-- and the log's open path is the sheet's, with its entries laid out
pub record Kept (s : Sheet) (l : Log) : Type 0 where
  pub paths : path_in s.open_path ≡ l.path
  pub laid : Laid l.path
  pub here : KeptAt s l

even_added : {X : Type 0} (u : Used X) (xs : List X) → Even u → Even (added u xs)
even_added u xs e = ap (λ k. k + length xs) e ∙ sym (length-append u.entries xs)

pub kept_none : Kept blank empty
kept_none = record {
  paths = refl;
  laid = tt;
  here = record {
    counted = record { words = refl; transforms = refl; styles = refl };
    outlined = outlined-none;
    drew = record { words = refl; drawings = drawings-none };
  };
}

-- what it tells that a call was not declined

second_none : (a b : Option EncodeError) → or_else a b ≡ None → (a ≡ None) × (b ≡ None)
second_none None b h = (refl, h)
second_none (Some e) b h = let z : ◌≡◌ {A = ℕ} 0 1 = cc in absurd (omega arith)

unless-none : (b : Bool) (e : EncodeError) → unless b e ≡ None → b ≡ true
unless-none true e h = refl
unless-none false e h = let z : ◌≡◌ {A = ℕ} 0 1 = cc in absurd (omega arith)

when-none : (b : Bool) (e : EncodeError) → when b e ≡ None → b ≡ false
when-none true e h = let z : ◌≡◌ {A = ℕ} 0 1 = cc in absurd (omega arith)
when-none false e h = refl

told_none : {V : Type 0} (o : Option EncodeError) (v : V) → error_in (told o v) ≡ None → o ≡ None
told_none None v h = refl
told_none (Some e) v h = let z : ◌≡◌ {A = ℕ} 0 1 = cc in absurd (omega arith)

as_fact : (b : Bool) → b ≡ true → T b
as_fact b e = subst T (sym e) tt

first_finite : (x y : Float) → all_finite (x ∷ y ∷ []) ≡ true → T (float_is_finite x)
unfolding all_finite
first_finite x y h = as_fact (float_is_finite x) (and_parts (float_is_finite x) (float_is_finite y && true) h).0

wide : (k : Stroke) (h : ℕ) → Strokes k h → stroke_error k ≡ None → Wide k
wide k h s e =
    let q = second_none (unless (all_finite (k.width ∷ k.miter_limit ∷ [])) NotFinite) (when (same_number k.width no_width) ZeroWidth) e in
    record {
      single = s.1;
      bounded = first_finite k.width k.miter_limit (unless-none _ _ q.0);
      not_zero = when-none _ _ q.1;
    }

itself : (t : Transform) → finite_transform t ≡ true → same_transform t t ≡ true
itself t h =
    let q = and_parts (all_finite t.matrix) (all_finite t.translation) h in
    λ i. both (compares.themselves t.matrix q.0) (compares.themselves t.translation q.1) i
  where
    both : {a b : Bool} → a ≡ true → b ≡ true → (a && b) ≡ true
    both p q = λ i. p i && q i

-- settings

kept_style : (ch : Chosen) (x : Style) (s : Sheet) (l : Log) → StyleOf ch x → Proper (Some ch) → Kept s l → Kept (cond (new_style x s) (styled x s) s) (Logs.noted_at_rest (SetStyle ch) l)
kept_style ch x s l is good k =
    let h = k.here in
    cond_both (new_style x s) (styled x s) s (λ r. Kept r (Logs.noted_at_rest (SetStyle ch) l))
    (λ e. record {
      paths = k.paths;
      laid = k.laid;
      here = record {
        counted = record { words = h.counted.words; transforms = h.counted.transforms; styles = even_added s.styles.written (x ∷ []) h.counted.styles };
        outlined = outlined-style _ _ _ _ _ _ _ h.outlined x ch is good;
        drew = h.drew;
      };
    })
    (λ e. record {
      paths = k.paths;
      laid = k.laid;
      here = record {
        counted = h.counted;
        outlined = outlined-same-style _ _ _ _ _ _ _ h.outlined ch (style_stays s.styles.forced s.styles.written.entries l.style ch x h.outlined.style h.outlined.proper is good e) good;
        drew = h.drew;
      };
    })

kept_transform : (x : Transform) (s : Sheet) (l : Log) → same_transform x x ≡ true → Kept s l → Kept (cond (new_transform x s) (transformed x s) s) (Logs.noted_at_rest (SetTransform x) l)
kept_transform x s l self k =
    let h = k.here in
    cond_both (new_transform x s) (transformed x s) s (λ r. Kept r (Logs.noted_at_rest (SetTransform x) l))
    (λ e. record {
      paths = k.paths;
      laid = k.laid;
      here = record {
        counted = record { words = h.counted.words; transforms = even_added s.transforms.written (x ∷ []) h.counted.transforms; styles = h.counted.styles };
        outlined = outlined-transform _ _ _ _ _ _ _ h.outlined x self;
        drew = h.drew;
      };
    })
    (λ e. record {
      paths = k.paths;
      laid = k.laid;
      here = record {
        counted = h.counted;
        outlined = outlined-same-transform _ _ _ _ _ _ _ h.outlined x (transform_stays s.transforms.forced s.transforms.written.entries x e);
        drew = h.drew;
      };
    })

-- draw commands

drew_more : (d : Sheets.Drawn) (t : DrawTag) (ws : List ℕ) (clips opens : ℕ) (c c' : Commands) → Drew d c → Drawings (d.tags.entries ++ t ∷ []) (d.words.entries ++ ws) clips opens c'.entries c'.begun →
    Drew (counting clips opens (drawing t ws d)) c'
drew_more d t ws clips opens c c' h n = record { words = even_added d.words ws h.words; drawings = n }

drew-end : (d : Sheets.Drawn) (c : Commands) (bs : List ℕ) → eqb d.open_clips 0 ≡ false → Drew d c → Drawings d.tags.entries d.words.entries d.clips d.open_clips c.entries bs → Drew (clip_ended d) (close_latest bs c)
drew-end d c [] some h n =
    let bad : true ≡ false = ap (λ k. eqb k 0) (sym n.depth) ∙ some in
    let z : ◌≡◌ {A = ℕ} 0 1 = cc in absurd (omega arith)
drew-end d c (b ∷ bs) some h n = record {
  words = even_added d.words [] h.words;
  drawings = drawings-end _ _ _ _ _ b bs n;
}

drew-so : (x : Command) (d : Sheets.Drawn) (s : Sheet) (l : Log) → Kept s l → Drew d (drawn x l.commands) → Kept (with_drawn d s) (Logs.noted_at_rest (Draw x) l)
drew-so x d s l k n =
    let c = k.here.counted in
    record { paths = k.paths; laid = k.laid; here = record { counted = record { words = c.words; transforms = c.transforms; styles = c.styles }; outlined = k.here.outlined; drew = n } }

kept_draw : (x : Command) (s q : Sheet) (l : Log) → Draws x s q → Kept s l → Kept q (Logs.noted_at_rest (Draw x) l)
kept_draw (Color c) s q l k h =
    subst (λ z. Kept z (Logs.noted_at_rest (Draw (Color c)) l)) (sym k.1)
    (drew-so (Color c) _ s l h (drew_more s.drawn _ _ _ _ l.commands _ h.here.drew (drawings-color _ _ _ _ _ _ h.here.drew.drawings c)))
kept_draw (Blurred c w ht r d) s q l k h =
    subst (λ z. Kept z (Logs.noted_at_rest (Draw (Blurred c w ht r d)) l)) (sym k.1)
    (drew-so (Blurred c w ht r d) _ s l h (drew_more s.drawn _ _ _ _ l.commands _ h.here.drew (drawings-blurred _ _ _ _ _ _ h.here.drew.drawings _ _ _ _ _)))
kept_draw (BeginClip mix compose alpha) s q l k h =
    subst (λ z. Kept z (Logs.noted_at_rest (Draw (BeginClip mix compose alpha)) l)) (sym k.1)
    (drew-so (BeginClip mix compose alpha) _ s l h (drew_more s.drawn _ _ _ _ l.commands _ h.here.drew (drawings-begin _ _ _ _ _ _ h.here.drew.drawings _ _)))
kept_draw EndClip s q l k h =
    let c = h.here.counted in
    subst (λ z. Kept z (Logs.noted_at_rest (Draw EndClip) l)) (sym k.1)
    (record {
      paths = h.paths;
      laid = h.laid;
      here = record {
        counted = record { words = c.words; transforms = c.transforms; styles = c.styles };
        outlined = outlined-mark _ _ _ _ _ _ _ h.here.outlined;
        drew = drew-end s.drawn l.commands l.commands.begun (when-none _ _ k.0) h.here.drew h.here.drew.drawings;
      };
    })

-- paths

-- the sheet and the log with another open path
re_opened : (o : Option Opened) (p : Option Path) (s : Sheet) (l : Log) → path_in o ≡ p → Laid p → KeptAt s l → Kept (with_open o s) (with_path p l)
re_opened o p s l e laid h = record {
  paths = e;
  laid = laid;
  here = record { counted = record { words = h.counted.words; transforms = h.counted.transforms; styles = h.counted.styles }; outlined = h.outlined; drew = h.drew };
}

-- a path's entries o at rest, and f once it is over, with so many paths more
module _ (o f : Own) (k : ℕ) (s : Sheet) (l : Log) (h : KeptAt s l) where
  abbrev Over : List PathTag → ℕ → Type 0
  Over ts n = Outlined ts (record { words = s.outlines.words.entries ++ o.words; transforms = s.transforms.written.entries; styles = s.styles.written.entries }) n (s.outlines.segments + k) (with_segments o l).segments l.style l.transform

  marked : (b : Bool) → Over (s.tags.entries ++ o.tags) s.outlines.paths → Over (s.tags.entries ++ (o.tags ++ cond b (path_tag ∷ []) [])) (s.outlines.paths + cond b 1 0)
  marked true more = subst (λ ts. Over ts (s.outlines.paths + 1)) (append_assoc s.tags.entries o.tags (path_tag ∷ [])) (outlined-mark _ _ _ _ _ _ _ more)
  marked false more =
      let same : s.outlines.paths ≡ s.outlines.paths + 0 = omega arith in
      subst (λ ts. Over ts (s.outlines.paths + 0)) (ap (λ us. s.tags.entries ++ us) (sym (append-nil o.tags))) (subst (Over (s.tags.entries ++ o.tags)) same more)

  abbrev over : Own → Bool → Sheet
  over z b = with_open None (with_outlines (added s.tags z.tags) (record { words = added s.outlines.words z.words; paths = s.outlines.paths + cond b 1 0; segments = s.outlines.segments + k }) s)

  kept-marked : (b : Bool) → AllGood (pieces o.tags o.words) → total o.tags ≡ record { transforms = 0; segments = k; words = length o.words; styles = 0; paths = 0 } →
      f.tags ≡ o.tags ++ cond b (path_tag ∷ []) [] → f.words ≡ o.words → Kept (over f b) (with_segments o l)
  kept-marked b good counts et ew =
      subst (λ z. Kept (over z b) (with_segments o l)) (λ i. record { tags = sym et i; words = sym ew i }) (record {
        paths = refl;
        laid = tt;
        here = record {
          counted = record { words = even_added s.outlines.words o.words h.counted.words; transforms = h.counted.transforms; styles = h.counted.styles };
          outlined = marked b (outlined-path _ _ _ _ _ _ _ h.outlined o k good counts);
          drew = h.drew;
        };
      })

-- a path that counted nothing adds no segment
no_segments : (o : Own) (s : Sheet) (l : Log) → length o.tags ≡ 0 → KeptAt s l → Kept (with_open None s) (with_segments o l)
no_segments o s l none h = by o.tags refl
  where
    by : (ts : List PathTag) → o.tags ≡ ts → Kept (with_open None s) (with_segments o l)
    by [] e =
        let same : l.segments ≡ (with_segments o l).segments = sym (append-nil l.segments) ∙ ap (λ ts. l.segments ++ Logs.styled l.style l.transform (pieces ts o.words)) (sym e) in
        record {
          paths = refl;
          laid = tt;
          here = record {
            counted = record { words = h.counted.words; transforms = h.counted.transforms; styles = h.counted.styles };
            outlined = subst (λ xs. Outlined s.tags.entries (store s) s.outlines.paths s.outlines.segments xs l.style l.transform) same h.outlined;
            drew = h.drew;
          };
        }
    by (t ∷ ts) e = absurd (omega (arith, none, ap length e))

kept_finish : (mark : Bool) (o : Opened) (s : Sheet) (l : Log) → LaidOut o.path → KeptAt s l → Kept (ended mark (Some o) s) (with_segments (leave o.path).own l)
kept_finish mark o s l laid h =
    let m = o.path in
    let e = (amounts m laid).finishes in
    cond_both (eqb (counted m) 0) (with_open None s) (with_open None (with_outlines (added s.tags (finish mark m).own.tags) (outlined mark m s.outlines) s)) (λ r. Kept r (with_segments (leave m).own l))
    (λ z. no_segments (leave m).own s l (eqb-true (counted m) 0 z) h)
    (λ z.
    let some : 0 < counted m = let ne = eqb-false (counted m) 0 z in search rules in
    kept-marked (leave m).own (finish mark m).own (counted m) s l h mark
    (subst AllGood (sym e.reads.pieces_are) (good_all e.reads.subpaths))
    e.reads.counts (e.something mark some) (e.words mark))

-- an element's rule takes its step
element_next : (x : PathEl) (s : Sheet) → (element_rule x).next s ≡ with_open (stepped (step_of x) s.open_path) s
element_next (MoveTo a b) s = refl
element_next (LineTo a b) s = refl
element_next (QuadTo a b c d) s = refl
element_next (CurveTo a b c d e f) s = refl
element_next ClosePath s = refl

kept_step : (x : PathEl) (o : Opened) (s : Sheet) (l : Log) → LaidOut o.path → KeptAt s l → Kept (with_open (stepped (step_of x) (Some o)) s) (with_path (Some (step (step_of x) o.path)) l)
kept_step x o s l laid h = re_opened (stepped (step_of x) (Some o)) (Some (step (step_of x) o.path)) s l refl (step-laid (step_of x) o.path laid) h

-- elements in turn
after-so : (xs : List PathEl) (o : Opened) (s : Sheet) → (p : Opened) × (after_elements xs (with_open (Some o) s) ≡ with_open (Some p) s) × (p.path ≡ drawn_in xs o.path)
after-so [] o s = (o, refl, refl)
after-so (x ∷ xs) o s =
    let next : Opened = whole (step (step_of x) o.path) in
    let r = after-so xs next s in
    (r.0, ap (after_elements xs) (element_next x (with_open (Some o) s)) ∙ r.1, r.2)

drawn-laid : (xs : List PathEl) (m : Path) → LaidOut m → LaidOut (drawn_in xs m)
drawn-laid [] m h = h
drawn-laid (x ∷ xs) m h = drawn-laid xs (step (step_of x) m) (step-laid (step_of x) m h)

kept_list : (xs : List PathEl) (fill : Bool) (s : Sheet) (l : Log) → KeptAt s l → Kept (list_next xs fill s) (Logs.noted_at_rest (Elements xs fill) l)
kept_list xs fill s l h =
    let r = after-so xs (whole (fresh fill)) s in
    let p = r.0 in
    let laid : LaidOut p.path = subst LaidOut (sym r.2) (drawn-laid xs (fresh fill) (laid_out fill [])) in
    let opened : KeptAt (with_open (Some p) s) l = record { counted = record { words = h.counted.words; transforms = h.counted.transforms; styles = h.counted.styles }; outlined = h.outlined; drew = h.drew } in
    subst (λ m. Kept (list_next xs fill s) (with_segments (leave m).own l)) r.2
    (subst (λ z. Kept (ended true z.open_path z) (with_segments (leave p.path).own l)) (sym r.1) (kept_finish true p (with_open (Some p) s) l laid opened))

-- every call

kept_at-rest : (c : Call) (s q : Sheet) (l : Log) → s.open_path ≡ None → FromRest c s q → Kept s l → Kept q (Logs.noted_at_rest c l)
kept_at-rest Reset s q l none k h = subst (λ z. Kept z empty) (sym k) kept_none
kept_at-rest ForceNext s q l none k h =
    let c = h.here.counted in
    subst (λ z. Kept z l) (sym k) (record { paths = h.paths; laid = h.laid; here = record { counted = record { words = c.words; transforms = c.transforms; styles = c.styles }; outlined = h.here.outlined; drew = h.here.drew } })
kept_at-rest (SetTransform t) s q l none k h = subst (λ z. Kept z (Logs.noted_at_rest (SetTransform t) l)) (sym k.1) (kept_transform t s l (itself t (unless-none _ _ k.0)) h)
kept_at-rest (SetStyle (Filled f)) s q l none k h = subst (λ z. Kept z (Logs.noted_at_rest (SetStyle (Filled f)) l)) (sym k.1) (kept_style (Filled f) (fill_style f) s l refl tt h)
kept_at-rest (SetStyle (Stroked x)) s q l none k h =
    let st = stroke_style x k.0 in
    let fine : stroke_error x ≡ None = told_none (stroke_error x) st k.2.0 in
    let is : q ≡ cond (new_style st s) (styled st s) s = k.2.1 ∙ ap (λ e. set_style (told e st) s) fine in
    subst (λ z. Kept z (Logs.noted_at_rest (SetStyle (Stroked x)) l)) (sym is) (kept_style (Stroked x) st s l (k.0, k.1.0, refl) (wide x k.0 k.1 fine) h)
kept_at-rest (Draw x) s q l none k h = kept_draw x s q l k h
kept_at-rest EmptyShape s q l none k h =
    let over-is : q ≡ with_open None (empty_shape_rule.next s) = k.1 ∙ λ i. with_open (none i) (empty_shape_rule.next s) in
    subst (λ z. Kept z (Logs.noted_at_rest EmptyShape l)) (sym over-is)
    (kept-marked Logs.empty_shape (record { tags = tag 0x0d ∷ path_tag ∷ []; words = 0 ∷ 0 ∷ 0 ∷ 0 ∷ [] }) 1 s l h.here true (record { plain = record { segment = refl; words = refl; transforms = refl; styles = refl }; size = refl }, tt) refl refl refl)
kept_at-rest (Elements xs fill) s q l none k h = subst (λ z. Kept z (Logs.noted_at_rest (Elements xs fill) l)) (sym k) (kept_list xs fill s l h.here)
kept_at-rest (OpenPath fill) s q l none k h = subst (λ z. Kept z (Logs.noted_at_rest (OpenPath fill) l)) (sym k) (re_opened (Some (whole (fresh fill))) (Some (fresh fill)) s l refl (laid_out fill []) h.here)
kept_at-rest (Take x) s q l none k h = absurd k
kept_at-rest (Finish mark) s q l none k h = absurd k
kept_at-rest Abandon s q l none k h = absurd k

kept_in_path : (c : Call) (o : Opened) (s q : Sheet) (l : Log) → s.open_path ≡ Some o → LaidOut o.path → FromPath c s q → KeptAt s l → Kept q (Logs.noted_in_path c o.path l)
kept_in_path (Take x) o s q l e laid k h =
    let is : q ≡ with_open (stepped (step_of x) (Some o)) s = k.1 ∙ element_next x s ∙ ap (λ p. with_open (stepped (step_of x) p) s) e in
    subst (λ z. Kept z (Logs.noted_in_path (Take x) o.path l)) (sym is) (kept_step x o s l laid h)
kept_in_path (Finish mark) o s q l e laid k h =
    subst (λ z. Kept z (Logs.noted_in_path (Finish mark) o.path l)) (sym (k.1 ∙ ap (λ p. ended mark p s) e)) (kept_finish mark o s l laid h)
kept_in_path Abandon o s q l e laid k h = subst (λ z. Kept z (Logs.noted_in_path Abandon o.path l)) (sym k) (re_opened None None s l refl tt h)
kept_in_path Reset o s q l e laid k h = absurd k
kept_in_path ForceNext o s q l e laid k h = absurd k
kept_in_path (SetTransform t) o s q l e laid k h = absurd k
kept_in_path (SetStyle x) o s q l e laid k h = absurd k
kept_in_path (Draw x) o s q l e laid k h = absurd k
kept_in_path EmptyShape o s q l e laid k h = absurd k
kept_in_path (Elements xs fill) o s q l e laid k h = absurd k
kept_in_path (OpenPath fill) o s q l e laid k h = absurd k

kept_from : (o : Option Opened) (c : Call) (s q : Sheet) (l : Log) → s.open_path ≡ o → Laid (path_in o) → From o c s q → Kept s l → Kept q (noted_by (path_in o) c l)
kept_from None c s q l e laid k h = kept_at-rest c s q l e k h
kept_from (Some o) c s q l e laid k h = kept_in_path c o s q l e laid k h.here

kept_call : (c : Call) (s q : Sheet) (l : Log) → Leaves c s q → Kept s l → Kept q (noted c l)
kept_call c s q l k h = subst (λ p. Kept q (noted_by p c l)) h.paths (kept_from s.open_path c s q l refl (subst Laid (sym h.paths) h.laid) k h)

kept_by : (b : Bool) (c : Call) (xs : List Made) (q : Sheet) → ((s : Sheet) → Ruled xs s → Kept s (logged xs)) → RuledBy b c (Ruled xs) q → Kept q (cond b (noted c (logged xs)) (logged xs))
kept_by true c xs q before r = kept_call c r.0 q (logged xs) r.2 (before r.0 r.1)
kept_by false c xs q before r = before q r

pub kept : (xs : List Made) (q : Sheet) → Ruled xs q → Kept q (logged xs)
kept [] q r = subst (λ z. Kept z empty) (sym r) kept_none
kept (x ∷ xs) q r = kept_by (taken x.answer) x.call xs q (kept xs) r
