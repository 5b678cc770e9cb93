use Rattle.std.proofs.Common.{◌≡◌, ◌/◌, ◌<◌, ◌++◌, [], ◌∷◌, map, drop, length, vec_items, sym, ap, ◌∙◌, append-nil, arith, rules, tests, take_all}
use Rattle.std.specs.Simd.{first_chunks}
use Rattle.monoid.specs.Packing.{blank, packed}
use Rattle.monoid.proofs.Packs.{word_of, packs, packed_fours, packed_rest, packed_none}
use Rattle.monoid.proofs.path.pack_tags.Goals as goal
use Rattle.monoid.proofs.path.pack_tags.Goals.{then-not-is_empty+in_ok-push-2, else-not-is_empty}

pub returns : goal.returns
returns c =
    let ts = c.args.tags.now in
    let k = length ts / 4 in
    let rest = c.as_chunks.result.1.now in
    let fours : vec_items c.loop-a.words ≡ map word_of (first_chunks 4 k ts) =
    c.loop-a.invariant ∙ ap (map word_of) (take_all _ _ c.loop-a-test.false ∙ c.as_chunks.ensures.front) in
    let parts : packed ts ≡ vec_items c.loop-a.words ++ packed rest =
    packed_fours k ts (omega arith) ∙ (λ i. sym fours i ++ packed (sym c.as_chunks.ensures.back i)) in
    let all : vec_items c.if-not-is_empty.words ≡ packed ts = elim c.if-not-is_empty.branch [
      | then-not-is_empty+in_ok-push-2 w ↦
          let some : 0 < length rest = search (rules, tests) in
          let blanks = blank ∷ blank ∷ blank ∷ blank ∷ [] in
          let last = w.tag_word-then-not-is_empty.ensures ∙ ap (λ xs. word_of (xs ++ drop (length rest) blanks)) w.copy_from_slice.ensures.after in
          ap vec_items w.words-is
          ∙ w.in_ok-push-2.ensures.items
          ∙ ap (λ x. vec_items c.loop-a.words ++ (x ∷ [])) last
          ∙ ap (λ xs. vec_items c.loop-a.words ++ xs) (sym (packed_rest rest some (omega (arith, c.as_chunks.ensures.back_len))))
          ∙ sym parts
      | else-not-is_empty w ↦
          let none : length rest ≡ 0 = search (rules, tests) in
          ap vec_items w.words-is ∙ sym (append-nil (vec_items c.loop-a.words)) ∙ ap (λ xs. vec_items c.loop-a.words ++ xs) (sym (packed_none rest none)) ∙ sym parts
    ] in packs _ _ all
