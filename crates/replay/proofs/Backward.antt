-- What is read from streams that show a log is the log. Assumes nothing.
use Rattle.std.proofs.Common.{◌≡◌, ℕ, zero, suc, ◌+◌, ◌<◌, ◌≤◌, true, List, [], ◌∷◌, ◌++◌, map, length, get_or, take, drop, Some, sym, refl, ap, ◌∙◌, subst, arith, length-drop, length-take}
use Rattle.std.specs.List.{slice_get}
use Rattle.std.specs.Option.{option_map}
use Rattle.std.proofs.lemmas.List.{drop_more, take-append-drop}
use Rattle.std.proofs.lemmas.Option.{slice_get-map, slice_get_within, get_or_from_slice_get}
use Rattle.monoid.specs.declared.path.PathTag.{PathTag}
use Rattle.monoid.specs.declared.draw.DrawTag.{DrawTag}
use Rattle.monoid.specs.PathTags.{Counts, is_segment}
use Rattle.monoid.specs.Packing.{blank}
use Rattle.path.specs.Turns.{reads}
use Rattle.values.specs.declared.transform.Transform.{Transform}
use Rattle.values.specs.declared.style.Style.{Style}
use Rattle.replay.specs.declared.reader.ShownSegment.{ShownSegment}
use Rattle.replay.specs.declared.reader.ShownCommand.{ShownCommand}
use Rattle.replay.specs.Log.{Segment, Entry}
use Rattle.replay.specs.Wanted.{counted, drawn_total, words_in, Shows}
use Rattle.replay.specs.Reading.{filled, eight_at, segment-at, command_at, RowShows, CommandShows, LogRead, CommandsLogged}

-- a row of eight begins with the words that fill it
take-filled : (k : ℕ) (xs : List ℕ) → length xs ≤ k → take (length xs) (filled k xs) ≡ xs
take-filled k [] h = refl
take-filled zero (x ∷ xs) h = absurd (omega arith)
take-filled (suc k) (x ∷ xs) h = ap (λ l. x ∷ l) (take-filled k xs (omega arith))

row_begins : (n : ℕ) (ws xs : List ℕ) (off : ℕ) → n ≤ 8 → length xs ≡ n → take n (drop off ws) ≡ xs → take n (eight_at ws off n) ≡ xs
row_begins n ws xs off few size is =
    ap (λ ys. take n (filled 8 ys)) is ∙ ap (λ k. take k (filled 8 xs)) (sym size) ∙ take-filled 8 xs (omega arith)

module _ (ts : List PathTag) (ws : List ℕ) (tr : List Transform) (st : List Style) (was rows : List ShownSegment)
    (each : (k : ℕ) → k < length ts → is_segment (get_or ts k blank) ≡ true → (counted (take k ts)).segments < length was → (d : ShownSegment) →
    get_or rows (counted (take k ts)).segments d ≡ segment-at ws tr st (counted (take k ts)) (get_or ts k blank)) where
  row_shows : (c : Counts) (t : PathTag) (x : Segment) → Shows ws tr st c t x → RowShows (segment-at ws tr st c t) x
  row_shows c t x h =
      let full : length (take (reads t) (drop c.words ws)) ≡ reads t = simp (length-take, length-drop) (omega (arith, h.inside)) in
      record {
        tag = sym h.tag;
        points = subst (λ (u : PathTag). take (reads u) (eight_at ws c.words (reads t)) ≡ x.points) (sym h.tag)
            (row_begins (reads t) ws x.points c.words (omega arith) (sym (ap length h.points) ∙ full) h.points);
        style = h.style;
        transform = h.transform;
      }

  pub log-read : LogRead ts ws tr st was rows
  log-read l s et ew er es h k less seg room d =
      let t = get_or ts k blank in
      let split : ts ≡ take k ts ++ t ∷ drop (k + 1) ts = sym (take-append-drop k ts) ∙ ap (λ us. take k ts ++ us) (drop_more ts k blank less) in
      let found = h.each (take k ts) t (drop (k + 1) ts) (et ∙ split) seg in
      let c = counted (take k ts) in
      let here : Shows ws tr st c t found.0 = subst (λ a. Shows a tr st c t found.0) ew (subst (λ a. Shows s.outlines.words.entries a st c t found.0) er (subst (λ a. Shows s.outlines.words.entries s.transforms.written.entries a c t found.0) es found.2)) in
      (found.0, found.1, subst (λ (r : ShownSegment). RowShows r found.0) (sym (each k less seg room d)) (row_shows c t found.0 here))

-- the tag of an entry, at its place
tag_at : (xs : List Entry) (k : ℕ) (x : Entry) (e : DrawTag) → slice_get xs k ≡ Some x → (k < length (map (λ (y : Entry). y.tag) xs)) × (get_or (map (λ (y : Entry). y.tag) xs) k e ≡ x.tag)
tag_at xs k x e h =
    let at : slice_get (map (λ (y : Entry). y.tag) xs) k ≡ Some x.tag = slice_get-map (λ (y : Entry). y.tag) xs k ∙ ap (option_map (λ (y : Entry). y.tag)) h in
    (slice_get_within (map (λ (y : Entry). y.tag) xs) k x.tag at, get_or_from_slice_get (map (λ (y : Entry). y.tag) xs) k x.tag e at)

module _ (ts : List DrawTag) (ws : List ℕ) (was rows : List ShownCommand)
    (each : (k : ℕ) → k < length ts → k < length was → (d : ShownCommand) (e : DrawTag) → get_or rows k d ≡ command_at ws (drawn_total (take k ts)).words (get_or ts k e)) where
  pub commands-logged : CommandsLogged ts ws was rows
  commands-logged c s et ew h k x at room d =
      let order : ts ≡ map (λ (y : Entry). y.tag) c.entries = sym et ∙ h.in_order in
      let here = tag_at c.entries k x (record { 0 = 0 }) at in
      let less : k < length ts = subst (λ us. k < length us) (sym order) here.0 in
      let tag : get_or ts k (record { 0 = 0 }) ≡ x.tag = ap (λ us. get_or us k (record { 0 = 0 })) order ∙ here.1 in
      let off = (drawn_total (take k ts)).words in
      let shown = h.each k x at in
      let size : length x.words ≡ words_in x.tag = shown.0 in
      let same : take (length x.words) (drop off ws) ≡ x.words = (λ i. take (length x.words) (drop (drawn_total (take k (sym et i))).words (sym ew i))) ∙ shown.1 in
      let row : get_or rows k d ≡ command_at ws off x.tag = each k less room d (record { 0 = 0 }) ∙ ap (command_at ws off) tag in
      subst (λ (r : ShownCommand). CommandShows r x) (sym row) (record {
        tag = refl;
        words = ap (λ n. take (length x.words) (eight_at ws off n)) (sym size) ∙ row_begins (length x.words) ws x.words off (omega arith) refl same;
      })
