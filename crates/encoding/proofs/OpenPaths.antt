-- A call on an open path, over the sheet. Assumes nothing.
use Rattle.std.proofs.Common.{◌≡◌, ℕ, ◌+◌, ◌-◌, ◌≤◌, min, Bool, true, false, cond, ◌||◌, ltb, List, [], ◌∷◌, length, Some, None, Ok, Err, Option, Result, sym, refl, ap, ◌∙◌, subst, arith, le-ltb}
use Rattle.std.proofs.lemmas.List.Edits.{length-between}
use Rattle.std.proofs.lemmas.Slice.{take-put_mid_below}
use borrow.Rule.Slice.PartMut.{put_mid}
use Rattle.std.specs.List.{between}
use Rattle.monoid.specs.declared.path.PathTag.{PathTag}
use Rattle.path.specs.declared.open_path.OpenPath.{OpenPath}
use Rattle.path.specs.declared.state.Step.{Step}
use Rattle.path.specs.declared.state.Call.{Call}
use Rattle.path.specs.declared.state.Call.TheVariants.{Take}
use Rattle.path.specs.declared.state.Used.{Used}
use Rattle.path.specs.declared.state.Stream.TheVariants as Of
use Rattle.path.specs.declared.state.Declined.{Declined}
use Rattle.path.specs.declared.state.Declined.TheVariants.{Full}
use Rattle.path.specs.Rules.{Path, call, step}
use Rattle.path.specs.Space.{used_by, lacks}
use Rattle.path.specs.View.{Lent, lent, view, Held, Does}
use Rattle.path.specs.Calls as Own
use Rattle.path.specs.Calls.{in_use, declined, said, After}
use Rattle.path.proofs.Answering.{declined-full}
use Rattle.path.proofs.Copy.{own-used}
use Rattle.encoding.specs.declared.encoding.Encoding.{Encoding}
use Rattle.values.specs.declared.error.Stream.TheVariants.{PathTags, PathData}
use Rattle.values.specs.declared.error.EncodeError.{EncodeError}
use Rattle.values.specs.declared.error.EncodeError.TheVariants.{FullStream}
use Rattle.encoding.specs.declared.path_encoder.PathEncoder.{PathEncoder}
use Rattle.values.specs.Streams.{room, max_words, max_others}
use Rattle.values.specs.Errors.{short, full, or_else, told}
use Rattle.encoding.specs.Sheet.{Streams, sheet, with_paths, with_open}
use Rattle.encoding.specs.Promises.{Rule, Answered, reason, left_by, own_path, open_sheet}
use Rattle.encoding.specs.Rules.{Nothing}
use Rattle.encoding.specs.Paths.{whole, step_rule}
use Rattle.encoding.specs.Inner.{error_of, tags_used, words_used}
use Rattle.encoding.proofs.Parts.{take_part, part-after, passes}

-- the refusal that an open path's own stands for
abbrev pub as_error : Option Declined → Option EncodeError
as_error None = None
as_error (Some d) = Some (error_of d)

-- the answer that its own stands for
abbrev pub relayed : Result Nothing Declined → Result Nothing EncodeError
relayed (Ok x) = Ok x
relayed (Err d) = Err (error_of d)

pub told-relayed : (o : Option Declined) → relayed (said o) ≡ told (as_error o) tt
told-relayed None = refl
told-relayed (Some d) = refl

both_full : (s t : Bool) → as_error (Own.or_else Full (cond s (Some Of.PathTags) (cond t (Some Of.PathData) None)) None) ≡ cond s (Some (FullStream PathTags)) (cond t (Some (FullStream PathData)) None)
both_full true t = refl
both_full false true = refl
both_full false false = refl

-- the two streams have what is used of them, and so little
pub record Lending (e : Encoding) (o : OpenPath) (ts : List PathTag) (ws : List ℕ) : Type 0 where
  pub tags_held : e.path_tags + o.tags ≤ length ts
  pub words_held : e.path_data + o.words ≤ length ws
  pub few_tags : e.path_tags + o.tags ≤ max_others
  pub few_words : e.path_data + o.words ≤ max_words

pub lending : (p : PathEncoder) (ts : List PathTag) (ws : List ℕ) → (tags_used p ≤ length ts) × (words_used p ≤ length ws) → Lending p.encoding p.path ts ws
lending p ts ws held = record { tags_held = held.0; words_held = held.1; few_tags = p.few_tags; few_words = p.few_words }

module _ (e : Encoding) (o : OpenPath) (ts : List PathTag) (ws : List ℕ) (m : Streams) (l : Lending e o ts ws) where
  abbrev b : ℕ
  b = e.path_tags

  abbrev d : ℕ
  d = e.path_data

  -- the ends of the parts that the path is lent
  abbrev z : ℕ
  z = min (length ts) max_others

  abbrev y : ℕ
  y = min (length ws) max_words

  abbrev pub part : Lent
  part = lent o (between b z ts) (between d y ws)

  abbrev was : Streams
  was = with_paths m ts ws

  length-tags : length (between b z ts) ≡ z - b
  length-tags = length-between ts b z (omega arith)

  length-words : length (between d y ws) ≡ y - d
  length-words = length-between ws d y (omega arith)

  pub part_held : Held part
  part_held = record { tags = omega (arith, length-tags); words = omega (arith, length-words) }

  -- the path that it stands for
  pub same-path : view part ≡ own_path e o was
  same-path = λ i. record {
    state = o.state;
    moved = o.moved;
    fill = o.is_fill;
    first = o.first_point;
    tangent = o.first_start_tangent_end;
    own = record { tags = take_part o.tags b z ts (omega arith) i; words = take_part o.words d y ws (omega arith) i };
  }

  pub no_short : short (room PathTags (b + o.tags) (length ts) ∷ room PathData (d + o.words) (length ws) ∷ []) ≡ None
  no_short = simp (le-ltb (length ts) (b + o.tags) l.tags_held, le-ltb (length ws) (d + o.words) l.words_held)

  -- what is declined for want of space
  pub no-space : (c : Call) (u : Used) → u ≡ used_by (call c (own_path e o was)) →
      full (room PathTags (b + u.tags) (length ts) ∷ room PathData (d + u.words) (length ws) ∷ []) ≡ as_error (declined c part)
  no-space c u is =
      let p : ltb (z - b) u.tags ≡ (ltb (length ts) (b + u.tags) || ltb max_others (b + u.tags)) = passes b u.tags (length ts) max_others z refl (omega arith) in
      let q : ltb (y - d) u.words ≡ (ltb (length ws) (d + u.words) || ltb max_words (d + u.words)) = passes d u.words (length ws) max_words y refl (omega arith) in
      let here : lacks (in_use o) (length (between b z ts)) (length (between d y ws)) ≡ None =
      simp (le-ltb (length (between b z ts)) o.tags part_held.tags, le-ltb (length (between d y ws)) o.words part_held.words) in
      let used : used_by (call c (view part)) ≡ u = ap (λ v. used_by (call c v)) same-path ∙ sym is in
      let after : lacks (used_by (call c (view part))) (length (between b z ts)) (length (between d y ws)) ≡ lacks u (z - b) (y - d) = λ i. lacks (used i) (length-tags i) (length-words i) in
      sym (
      ap as_error (declined-full c part _ here after)
      ∙ both_full (ltb (z - b) u.tags) (ltb (y - d) u.words)
      ∙ λ i. cond (p i) (Some (FullStream PathTags)) (cond (q i) (Some (FullStream PathData)) None)
      )

  module _ (o' : OpenPath) (tp : List PathTag) (wp : List ℕ) where
    abbrev left : Streams
    left = with_paths m (put_mid b (z - b) ts tp) (put_mid d (y - d) ws wp)

    -- what is used up to the path is as it was
    pub same-sheet : sheet e left ≡ sheet e was
    same-sheet = λ i. record {
      tags = record { count = b; entries = take-put_mid_below b (z - b) ts tp b (omega arith) (omega arith) i };
      outlines = record { words = record { count = d; entries = take-put_mid_below d (y - d) ws wp d (omega arith) (omega arith) i }; paths = e.n_paths; segments = e.n_path_segments };
      transforms = (sheet e was).transforms;
      styles = (sheet e was).styles;
      drawn = (sheet e was).drawn;
      open_path = None;
    }

    -- and the path is what the part shows
    pub path-left : Held (lent o' tp wp) → own_path e o' left ≡ view (lent o' tp wp)
    path-left h = λ i. record {
      state = o'.state;
      moved = o'.moved;
      fill = o'.is_fill;
      first = o'.first_point;
      tangent = o'.first_start_tangent_end;
      own = record { tags = part-after o'.tags b (z - b) ts tp (omega arith) h.tags i; words = part-after o'.words d (y - d) ws wp (omega arith) h.words i };
    }

    -- declined, all is as it was
    pub unchanged : lent o' tp wp ≡ part → open_sheet e o' left ≡ open_sheet e o was
    unchanged h =
        let held : Held (lent o' tp wp) = subst Held (sym h) part_held in
        let path : own_path e o' left ≡ own_path e o was = path-left held ∙ ap view h ∙ same-path in
        λ i. with_open (Some (record { path = path i; tags = (h i).path.tags; words = (h i).path.words })) (same-sheet i)

    -- accepted, the path is what the rule says
    pub changed : (f : Path → Path) → Does f part (lent o' tp wp) → open_sheet e o' left ≡ with_open (Some (whole (f (own_path e o was)))) (sheet e was)
    changed f does =
        let shows : view (lent o' tp wp) ≡ f (own_path e o was) = does.shows ∙ ap f same-path in
        let path : own_path e o' left ≡ f (own_path e o was) = path-left does.kept ∙ shows in
        let used : used_by (f (own_path e o was)) ≡ in_use o' = sym (ap used_by shows) ∙ own-used (lent o' tp wp) does.kept in
        λ i. with_open (Some (record { path = path i; tags = (sym used i).tags; words = (sym used i).words })) (same-sheet i)

    abbrev rule : Step → Rule Nothing
    rule x = step_rule true x

    after-step : (x : Step) (o₂ : Option Declined) → After o₂ (Take x) part (lent o' tp wp) → open_sheet e o' left ≡ left_by (as_error o₂) (open_sheet e o was) ((rule x).next (open_sheet e o was))
    after-step x None does = changed (step x) does
    after-step x (Some r) same = unchanged same

    -- a step
    pub took : (x : Step) (r : Result Nothing Declined) → Own.Answered (Take x) part r (lent o' tp wp) → Answered (rule x) (open_sheet e o was) was (relayed r) (open_sheet e o' left)
    took x r h =
        let s = open_sheet e o was in
        let why : reason (rule x) s was ≡ as_error (declined (Take x) part) = λ i. or_else (no_short i) (no-space (Take x) (used_by (step x (own_path e o was))) refl i) in
        record {
          says = ap relayed h.says ∙ told-relayed (declined (Take x) part) ∙ ap (λ w. told w tt) (sym why);
          leaves = after-step x (declined (Take x) part) h.after ∙ ap (λ w. left_by w s ((rule x).next s)) (sym why);
        }
