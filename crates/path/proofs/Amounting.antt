-- What the rules amount to, from how a path's entries are laid out.
use Rattle.std.proofs.Common.{◌≡◌, ℕ, ◌+◌, ◌<◌, ◌≤◌, Bool, true, false, cond, List, [], ◌∷◌, ◌++◌, length, sym, refl, ap, ◌∙◌, subst, append-nil, arith, length-append}
use Rattle.geometry.specs.declared.points.Segment.{Segment}
use Rattle.geometry.specs.declared.points.Segment.TheVariants.{Line, Quad, Cubic}
use Rattle.monoid.specs.declared.path.PathTag.{PathTag}
use Rattle.monoid.specs.PathTags.{ended}
use Rattle.path.specs.States.{by_state}
use Rattle.path.specs.Entries.{point_words, tag_of, end_last, path_tag}
use Rattle.path.specs.Rules.{Path, fresh, leave, steps}
use Rattle.path.specs.Subpaths.{Subpath, tags_of, words_of, subpath_tags, all_tags, all_words, Whole, Each, Holds, LaidOut}
use Rattle.path.specs.Subpaths.LaidOut.{at_rest, after_move, in_subpath}
use Rattle.path.specs.Turns.{pieces, left_over}
use Rattle.path.specs.Theorems.{ends_in, points_in, ReadsBack, Counted, EndsWell, Amounts, AfterAnySteps}
use Rattle.path.proofs.Lists.{end_last-append, length-end_last}
use Rattle.path.proofs.Laying.{Rests, leave-rests, rest-laid, length-tags, laid_out}
use Rattle.path.proofs.Taking.{Tally, tally_open, tally_all, pieces_all, left_all, end_last-one, end_last_more}
use Rattle.path.proofs.Finish.{finished-none, finished-some}

-- what an open path's tags count
tallied : (m : Path) (ds : List Subpath) (ts : List PathTag) (ws : List ℕ) (w n : ℕ) → Holds m ds ts ws → Tally ts w n → Tally m.own.tags (length (all_words ds) + w) (length (all_tags ds) + n)
tallied m ds ts ws w n h t = subst (λ (z : List PathTag). Tally z (length (all_words ds) + w) (length (all_tags ds) + n)) (sym h.tags) (tally_all m.fill ds h.whole ts w n t)

counted_by : (m : Path) (ds : List Subpath) (ts : List PathTag) (ws : List ℕ) (w k : ℕ) → Holds m ds ts ws → Tally ts w (length ts) → length ws ≡ w + k → by_state 0 2 2 m.state ≡ k → Counted m
counted_by m ds ts ws w k h t e f =
    let a = tallied m ds ts ws w (length ts) h t in
    record {
      words = omega (arith, a.words, ap length h.words, length-append (all_words ds) ws, e, f);
      segments = a.segments ∙ omega (arith, ap length h.tags, length-append (all_tags ds) ts);
    }

counted : (m : Path) → LaidOut m → Counted m
counted m (at_rest ds e h) = counted_by m ds [] [] 0 0 h (tally_open []) refl (ap (by_state 0 2 2) e)
counted m (after_move ds e h) = counted_by m ds [] (point_words m.first) 0 2 h (tally_open []) refl (ap (by_state 0 2 2) e)
counted m (in_subpath ds ss n e h) = counted_by m ds (tags_of ss) _ (length (words_of ss)) 2 h (tally_open ss) (omega arith) (ap (by_state 0 2 2) e)

-- a path at rest
plain : (m : Path) → (r : Rests m) → (m.own.tags ≡ all_tags r.subpaths) × (m.own.words ≡ all_words r.subpaths)
plain m r = (r.holds.tags ∙ append-nil (all_tags r.subpaths), r.holds.words ∙ append-nil (all_words r.subpaths))

reads_back : (m : Path) → Rests m → ReadsBack m
reads_back m r =
    let e = plain m r in
    let t = tallied m r.subpaths [] [] 0 0 r.holds (tally_open []) in
    let n : length (all_tags r.subpaths) + 0 ≡ length m.own.tags = omega (arith, ap length e.0) in
    let w : length (all_words r.subpaths) + 0 ≡ length m.own.words = omega (arith, ap length e.1) in
    record {
      subpaths = r.subpaths;
      holds = r.holds;
      pieces_are = (λ i. pieces (e.0 i) (e.1 i)) ∙ pieces_all m.fill r.subpaths r.holds.whole;
      no_more = (λ i. left_over (e.0 i) (e.1 i)) ∙ left_all m.fill r.subpaths r.holds.whole;
      counts = t.counts ∙ (λ i. record { transforms = 0; segments = n i; words = w i; styles = 0; paths = 0 });
    }

-- the last tag of whole subpaths has its 04 already
ended_twice : (s : Segment) → ended (ended (tag_of s)) ≡ ended (tag_of s)
ended_twice (Line p) = refl
ended_twice (Quad p q) = refl
ended_twice (Cubic p q r) = refl

some-tags : (ss : List Segment) → 0 < length ss → 1 ≤ length (end_last (tags_of ss))
some-tags ss n = omega (arith, length-end_last (tags_of ss), length-tags ss)

end_again : (s : Segment) (ss : List Segment) → end_last (end_last (tags_of (s ∷ ss))) ≡ end_last (tags_of (s ∷ ss))
end_again s [] = ap end_last (end_last-one (tag_of s)) ∙ end_last-one (ended (tag_of s)) ∙ ap (λ (t : PathTag). t ∷ []) (ended_twice s) ∙ sym (end_last-one (tag_of s))
end_again s (t ∷ ss) =
    ap end_last (end_last_more s t ss) ∙ end_last-append (tag_of s ∷ []) (end_last (tags_of (t ∷ ss))) (some-tags (t ∷ ss) (omega arith))
    ∙ ap (λ (z : List PathTag). tag_of s ∷ z) (end_again t ss) ∙ sym (end_last_more s t ss)

whole_again : (f : Bool) (d : Subpath) → Whole f d → end_last (subpath_tags d) ≡ subpath_tags d
whole_again f d h = go d.segments h.some
  where
    go : (ss : List Segment) → 0 < length ss → end_last (end_last (tags_of ss)) ≡ end_last (tags_of ss)
    go [] n = absurd (omega arith)
    go (s ∷ ss) n = end_again s ss

all_again : (f : Bool) (d : Subpath) (ds : List Subpath) → Each (Whole f) (d ∷ ds) → end_last (all_tags (d ∷ ds)) ≡ all_tags (d ∷ ds)
all_again f d [] h = ap end_last (append-nil (subpath_tags d)) ∙ whole_again f d h.0 ∙ sym (append-nil (subpath_tags d))
all_again f d (e ∷ ds) h =
    let l : 1 ≤ length (all_tags (e ∷ ds)) = omega (arith, some-tags e.segments h.1.0.some, length-append (subpath_tags e) (all_tags ds)) in
    end_last-append (subpath_tags d) (all_tags (e ∷ ds)) l ∙ ap (λ (z : List PathTag). subpath_tags d ++ z) (all_again f e ds h.1)

rest_again : (m : Path) → Rests m → 0 < length m.own.tags → end_last m.own.tags ≡ m.own.tags
rest_again m r n = let e = (plain m r).0 in ap end_last e ∙ go r.subpaths r.holds.whole (omega (arith, ap length e)) ∙ sym e
  where
    go : (ds : List Subpath) → Each (Whole m.fill) ds → 0 < length (all_tags ds) → end_last (all_tags ds) ≡ all_tags ds
    go [] h k = absurd (omega arith)
    go (d ∷ ds) h k = all_again m.fill d ds h

empty : {A : Type 0} (xs : List A) → length xs ≡ 0 → xs ≡ []
empty [] e = refl
empty (x ∷ xs) e = absurd (omega arith)

path-tag-after : (mark : Bool) (ts : List PathTag) → end_last ts ≡ ts → cond mark (end_last ts ++ path_tag ∷ []) (end_last ts) ≡ ts ++ cond mark (path_tag ∷ []) []
path-tag-after true ts e = ap (λ (z : List PathTag). z ++ path_tag ∷ []) e
path-tag-after false ts e = e ∙ sym (append-nil ts)

ends_well : (m : Path) → LaidOut m → EndsWell m
ends_well m l =
    let r = leave-rests m l in
    let c = counted (leave m) (rest-laid (leave m) r) in
    record {
      rests = r.state;
      reads = reads_back (leave m) r;
      words = λ mark. refl;
      nothing = λ mark h.
          let t = empty (leave m).own.tags h in
          let z : length (leave m).own.words ≡ 0 = omega (arith, c.words, ap ends_in t, ap points_in t, ap (by_state 0 2 2) r.state) in
          let w = empty (leave m).own.words z in
          let f = finished-none mark (leave m).own.tags h ∙ t in
          λ i. record { tags = f i; words = w i };
      something = λ mark h. finished-some mark (leave m).own.tags h ∙ path-tag-after mark (leave m).own.tags (rest_again (leave m) r h);
    }

pub amounts : (m : Path) → LaidOut m → Amounts m
amounts m l = record { laid = l; counted = counted m l; finishes = ends_well m l }

pub after_any_steps : (fill : Bool) → AfterAnySteps fill
after_any_steps fill ss = amounts (steps ss (fresh fill)) (laid_out fill ss)
