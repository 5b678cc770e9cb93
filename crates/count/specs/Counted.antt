-- What is counted of a sheet's tags. Assumes nothing.
use Rattle.std.specs.Prelude.{◌≡◌, ℕ, ◌<◌, length, take, vec_items, slice_index_or}
use Rattle.monoid.specs.Laws.{reduced}
use Rattle.monoid.specs.Clips as clips
use Rattle.monoid.specs.DrawTags as draws
use Rattle.monoid.specs.PathTags as paths
use Rattle.monoid.specs.declared.draw.DrawMonoid.{DrawMonoid}
use Rattle.count.specs.declared.input.Sheet.{Sheet}
use Rattle.count.specs.declared.report.Counts.{Counts}

-- the totals are the sums over all tags, and row k over the draw tags before k
pub record Counted (s : Sheet) (c : Counts) : Type 0 where
  pub path_totals : paths.counts_of c.paths ≡ reduced paths.none paths.plus paths.from_tag (vec_items s.path_tags)
  pub draw_totals : draws.draws_of c.draws ≡ reduced draws.none draws.plus draws.from_tag (vec_items s.draw_tags)
  pub depth : clips.bic_of c.clip ≡ reduced clips.still clips.after clips.from_tag (vec_items s.draw_tags)
  pub row_count : length (vec_items c.rows) ≡ length (vec_items s.draw_tags)
  pub row : (k : ℕ) → k < length (vec_items s.draw_tags) → (d : DrawMonoid) →
      draws.draws_of (slice_index_or (vec_items c.rows) k d) ≡ reduced draws.none draws.plus draws.from_tag (take k (vec_items s.draw_tags))
