-- Each kind of record keeps the laws, and what few sources come to fits it. Assumes nothing.
use Rattle.std.specs.Prelude.{ℕ, ◌≤◌, List, length}
use Rattle.std.proofs.Common.{arith, rules}
use Rattle.monoid.specs.declared.draw.DrawTag.{DrawTag}
use Rattle.monoid.specs.Answers.{most}
use Rattle.monoid.specs.Laws.{Laws, reduced}
use Rattle.monoid.specs.Bounds.{words_few, draws_few, clips_few}
use Rattle.monoid.specs.PathTags as paths
use Rattle.monoid.specs.DrawTags as draws
use Rattle.monoid.specs.Clips as clips

pub path_laws : Laws paths.none paths.plus
path_laws = search rules

pub draw_laws : Laws draws.none draws.plus
draw_laws = search rules

pub clip_laws : Laws clips.still clips.after
clip_laws = search rules

pub path_fits : (ws : List ℕ) → length ws ≤ most → paths.Small (reduced paths.none paths.plus paths.from_word ws)
path_fits ws few = let h = words_few ws in omega arith

pub draw_fits : (ts : List DrawTag) → length ts ≤ most → draws.Small (reduced draws.none draws.plus draws.from_tag ts)
draw_fits ts few = let h = draws_few ts in omega arith

pub clip_fits : (ts : List DrawTag) → length ts ≤ most → clips.Small (reduced clips.still clips.after clips.from_tag ts)
clip_fits ts few = let h = clips_few ts in omega arith
