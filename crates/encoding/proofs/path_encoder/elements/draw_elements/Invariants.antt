use Rattle.encoding.specs.Sheet.{Streams, with_paths}
use Rattle.encoding.specs.Promises.{path_sheet}
use Rattle.encoding.proofs.Listing.{Along}
use Rattle.encoding.proofs.path_encoder.elements.draw_elements.Given as goal

abbrev pub invariant-loop-index : goal.invariant-loop-index
invariant-loop-index l = (m : Streams) → Along l.elements l.index (path_sheet l.initial.path (with_paths m l.initial.path_tags l.initial.path_data)) (with_paths m l.initial.path_tags l.initial.path_data) (path_sheet l.path (with_paths m l.path_tags l.path_data))
