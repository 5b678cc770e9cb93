-- A finish, over the sheet. Assumes nothing.
use Rattle.std.proofs.Common.{◌≡◌, ℕ, ◌+◌, ◌-◌, ◌<◌, ◌≤◌, min, Bool, true, false, cond, eqb, List, [], ◌∷◌, ◌++◌, length, take, Some, None, Ok, Err, sym, refl, ap, ◌∙◌, arith, length-take, length-take-le, le-ltb, eqb-true}
use lib.Seq.{take-append-le, take-append-add}
use Rattle.std.proofs.lemmas.List.Edits.{length-between}
use borrow.Rule.Slice.PartMut.{put_mid, post_of}
use Rattle.monoid.specs.declared.path.PathTag.{PathTag}
use Rattle.path.specs.declared.open_path.OpenPath.{OpenPath}
use Rattle.path.specs.declared.state.PathState.{PathState}
use Rattle.path.specs.declared.state.PathState.TheVariants.{Start, MoveTo, NonemptySubpath}
use Rattle.path.specs.declared.state.Call.TheVariants.{Finish}
use Rattle.path.specs.declared.state.Declined.{Declined}
use Rattle.path.specs.declared.state.Finished.{Finished}
use Rattle.path.specs.declared.state.Used.{Used}
use Rattle.path.specs.Entries.{drop_point}
use Rattle.path.specs.Rules.{Path, leave, finish}
use Rattle.path.specs.Space.{used_by, lacks}
use Rattle.path.specs.View.{Lent, lent, view, Room}
use Rattle.path.specs.Calls.{in_use, declined, Done, finished_by}
use Rattle.path.proofs.Answering.{declined-full, ready_accepted}
use Rattle.path.proofs.Cases.{close_at, leave-fill, leave-at}
use Rattle.path.proofs.Copy.{own-used}
use Rattle.path.proofs.Finish.{finished-none, length_some}
use Rattle.path.proofs.Steps.{room_as, room-put, room-join, room_mark, room-close, tag_held}
use Rattle.encoding.specs.declared.encoding.Encoding.{Encoding}
use Rattle.values.specs.declared.error.Stream.TheVariants.{PathTags, PathData}
use Rattle.values.specs.Streams.{room, max_words, max_others}
use Rattle.values.specs.Errors.{full, or_else, told}
use Rattle.encoding.specs.Sheet.{Sheet, Streams, sheet, with_paths, with_open, with_outlines}
use Rattle.encoding.specs.Promises.{Rule, Answered, reason, rooms, left_by, own_path, open_sheet}
use Rattle.encoding.specs.Rules.{added}
use Rattle.encoding.specs.Paths.{counted, outlined, finish_rule}
use Rattle.encoding.specs.Inner.{error_of, joined, FitsBehind}
use Rattle.encoding.proofs.OpenPaths.{Lending, as_error, part, part_held, same-path, no_short, no-space, same-sheet, unchanged}

-- a path that is left keeps its tags, and without one it has no more words than it had

room-left : (p : Path) (t w : ℕ) → p.state ≡ NonemptySubpath → (f : Bool) → p.fill ≡ f → Room (leave p) t w → Room p t w
room-left p t w h true e r = room-join p t w (room-close p t w h (room_as (leave p) _ t w (leave-fill p e) r))
room-left p t w h false e r = room-put _ p t w (room_mark _ t w (room_as (leave p) _ t w (leave-at NonemptySubpath p e h) r))

fewer_dropped : (ws : List ℕ) → length (drop_point ws) ≤ length ws
unfolding drop_point
fewer_dropped ws = simp length-take (omega arith)

left-words : (p : Path) (z : PathState) (f : Bool) → p.state ≡ z → p.fill ≡ f → (p.state ≡ NonemptySubpath → 0 < length p.own.tags) → counted p ≡ 0 → length (leave p).own.words ≤ length p.own.words
left-words p Start true h e some none = let is : leave p ≡ p = leave-fill p e ∙ close_at Start p h in omega (arith, ap (λ (q : Path). length q.own.words) is)
left-words p Start false h e some none = let is : leave p ≡ p = leave-at Start p e h in omega (arith, ap (λ (q : Path). length q.own.words) is)
left-words p MoveTo true h e some none = omega (arith, ap (λ (q : Path). length q.own.words) (leave-fill p e ∙ close_at MoveTo p h), fewer_dropped p.own.words)
left-words p MoveTo false h e some none = omega (arith, ap (λ (q : Path). length q.own.words) (leave-at MoveTo p e h), fewer_dropped p.own.words)
left-words p NonemptySubpath f h e some none =
    let r = room-left p (counted p) (length (leave p).own.words) h f e (record { tags = omega arith; words = omega arith }) in
    let lt = some h in absurd (omega (arith, r.tags))

-- entries put behind those before
take_behind : {X : Type 0} (a k n : ℕ) (xs ys : List X) → a ≤ length xs → n ≤ length ys → take (a + n) (put_mid a k xs ys) ≡ take a xs ++ take n ys
take_behind a k n xs ys h l =
    ap (λ i. take (i + n) (put_mid a k xs ys)) (sym (length-take-le a xs h))
    ∙ take-append-add (take a xs) (ys ++ post_of a k xs) n
    ∙ ap (λ us. take a xs ++ us) (take-append-le n ys (post_of a k xs) l)

long_enough : {X : Type 0} (n : ℕ) (xs ys : List X) → take n xs ≡ ys → n ≡ length ys → n ≤ length xs
long_enough n xs ys e h = let k = simp length-take at (ap length e) in omega arith

module _ (e : Encoding) (o : OpenPath) (ts : List PathTag) (ws : List ℕ) (m : Streams) (l : Lending e o ts ws) (mark : Bool) where
  abbrev b : ℕ
  b = e.path_tags

  abbrev d : ℕ
  d = e.path_data

  abbrev z : ℕ
  z = min (length ts) max_others

  abbrev y : ℕ
  y = min (length ws) max_words

  abbrev was : Streams
  was = with_paths m ts ws

  abbrev own : Path
  own = own_path e o was

  abbrev s : Sheet
  s = open_sheet e o was

  abbrev lended : Lent
  lended = part e o ts ws m l

  abbrev rule : Rule ℕ
  rule = finish_rule mark

  same : view lended ≡ own
  same = same-path e o ts ws m l

  used : used_by (view lended) ≡ in_use o
  used = own-used lended (part_held e o ts ws m l)

  -- nothing is counted, and nothing declined
  none-declined : counted own ≡ 0 → declined (Finish mark) lended ≡ None
  none-declined none =
      let v = view lended in
      let none₂ : counted v ≡ 0 = ap counted same ∙ none in
      let some : v.state ≡ NonemptySubpath → 0 < length v.own.tags = λ h. let k = tag_held o h in omega (arith, ap (λ (u : Used). u.tags) used) in
      let words = left-words v v.state v.fill refl refl some none₂ in
      let tags : length (finish mark v).own.tags ≡ 0 = ap length (finished-none mark (leave v).own.tags none₂) ∙ none₂ in
      let held = part_held e o ts ws m l in
      let few : length (finish mark v).own.words ≤ length lended.words = omega (arith, words, ap (λ (u : Used). u.words) used, held.words) in
      let here : lacks (in_use o) (length lended.tags) (length lended.words) ≡ None =
      simp (le-ltb (length lended.tags) o.tags held.tags, le-ltb (length lended.words) o.words held.words) in
      let after : lacks (used_by (finish mark v)) (length lended.tags) (length lended.words) ≡ None =
      simp (le-ltb (length lended.tags) (length (finish mark v).own.tags) (omega arith), le-ltb (length lended.words) (length (finish mark v).own.words) few) in
      declined-full (Finish mark) lended None here after

  fits-still : full (room PathTags b (length ts) ∷ room PathData d (length ws) ∷ []) ≡ None
  fits-still =
      simp (le-ltb (length ts) b (omega arith), le-ltb max_others b (omega arith), le-ltb (length ws) d (omega arith), le-ltb max_words d (omega arith))

  -- why a finish is declined
  why-by : (q : Bool) → eqb (counted own) 0 ≡ q → full (rooms rule.on (rule.next s) was) ≡ as_error (declined (Finish mark) lended)
  why-by true h =
      ap (λ q. full (rooms rule.on (cond q (with_open None s) (with_open None (with_outlines (added s.tags (finish mark own).own.tags) (outlined mark own s.outlines) s))) was)) h
      ∙ fits-still ∙ ap as_error (sym (none-declined (eqb-true (counted own) 0 h)))
  why-by false h =
      ap (λ q. full (rooms rule.on (cond q (with_open None s) (with_open None (with_outlines (added s.tags (finish mark own).own.tags) (outlined mark own s.outlines) s))) was)) h
      ∙ no-space e o ts ws m l (Finish mark) (used_by (finish mark own)) refl

  why : reason rule s was ≡ as_error (declined (Finish mark) lended)
  why = λ i. or_else (no_short e o ts ws m l i) (why-by (eqb (counted own) 0) refl i)

  module _ (tp : List PathTag) (wp : List ℕ) where
    abbrev left : Streams
    left = with_paths m (put_mid b (z - b) ts tp) (put_mid d (y - d) ws wp)

    -- declined, the path is given back
    pub given_back : (o' : OpenPath) (x : Declined) → declined (Finish mark) lended ≡ Some x → lent o' tp wp ≡ lended → Answered rule s was (Err (error_of x)) (open_sheet e o' left)
    given_back o' x h back =
        let is : reason rule s was ≡ Some (error_of x) = why ∙ ap as_error h in
        record {
          says = ap (λ w. told w (rule.answer s)) (sym is);
          leaves = unchanged e o ts ws m l o' tp wp back ∙ ap (λ w. left_by w s (rule.next s)) (sym is);
        }

    module _ (f : Finished) (done : Done mark lended f tp wp) where
      is-finished : f ≡ finished_by mark own
      is-finished = done.says ∙ ap (finished_by mark) same

      -- the finished path fits
      pub fits-behind : FitsBehind e f mark
      fits-behind =
          let r = (ready_accepted (Finish mark) lended done.accepted).room in
          let tags = length-between ts b z (omega arith) in
          let words = length-between ws d y (omega arith) in
          let ft = ap (λ (g : Finished). g.used.tags) done.says in
          let fw = ap (λ (g : Finished). g.used.words) done.says in
          let fs = ap (λ (g : Finished). g.segments) done.says in
          record {
            tags = omega (arith, r.tags);
            words = omega (arith, r.words);
            tagged = λ h. let k = length_some mark (leave (view lended)).own.tags (omega arith) in omega arith;
          }

      joined_is : joined e f mark left ≡ with_open None (with_outlines (added s.tags (finish mark own).own.tags) (outlined mark own s.outlines) s)
      joined_is =
          let ft : f.used.tags ≡ length (finish mark own).own.tags = ap (λ (g : Finished). g.used.tags) is-finished in
          let fw : f.used.words ≡ length (finish mark own).own.words = ap (λ (g : Finished). g.used.words) is-finished in
          let fs : f.segments ≡ counted own = ap (λ (g : Finished). g.segments) is-finished in
          let tags : take f.used.tags tp ≡ (finish mark own).own.tags = done.tags ∙ ap (λ p. (finish mark p).own.tags) same in
          let words : take f.used.words wp ≡ (finish mark own).own.words = done.words ∙ ap (λ p. (finish mark p).own.words) same in
          let all_tags = take_behind b (z - b) f.used.tags ts tp (omega arith) (long_enough f.used.tags tp _ tags ft) ∙ ap (λ us. take b ts ++ us) tags in
          let All-words = take_behind d (y - d) f.used.words ws wp (omega arith) (long_enough f.used.words wp _ words fw) ∙ ap (λ us. take d ws ++ us) words in
          λ i. record {
            tags = record { count = b + ft i; entries = all_tags i };
            outlines = record { words = record { count = d + fw i; entries = All-words i }; paths = e.n_paths + cond mark 1 0; segments = e.n_path_segments + fs i };
            transforms = s.transforms;
            styles = s.styles;
            drawn = s.drawn;
            open_path = None;
          }

      -- accepted, its entries are in use
      pub taken_in : (e' : Encoding) (n : ℕ) → n ≡ f.segments → sheet e' left ≡ cond (eqb f.segments 0) (sheet e left) (joined e f mark left) → Answered rule s was (Ok n) (sheet e' left)
      taken_in e' n is shows =
          let fs : f.segments ≡ counted own = ap (λ (g : Finished). g.segments) is-finished in
          let ok : reason rule s was ≡ None = why ∙ ap as_error done.accepted in
          let next : sheet e' left ≡ rule.next s = shows ∙ λ i. cond (eqb (fs i) 0) (same-sheet e o ts ws m l o tp wp i) (joined_is i) in
          record {
            says = ap Ok (is ∙ fs) ∙ ap (λ w. told w (rule.answer s)) (sym ok);
            leaves = next ∙ ap (λ w. left_by w s (rule.next s)) (sym ok);
          }
