-- The rules of an element list and of the empty shape. Assumes nothing.
use Rattle.std.specs.Prelude.{◌≡◌, ℕ, ◌+◌, Bool, true, not, List, [], ◌∷◌, Some, None, Ok, Err, Option, Result, ◌==◌}
use Rattle.monoid.specs.PathTags.{tag}
use Rattle.path.specs.Entries.{path_tag}
use Rattle.monoid.specs.declared.path.PathTag.{PathTag}
use Rattle.encoding.specs.declared.encoding.Encoding.{Encoding}
use Rattle.encoding.specs.declared.path_encoder.PathEncoder.{PathEncoder}
use Rattle.values.specs.declared.element.ElementError.{ElementError}
use Rattle.values.specs.declared.element.PathEl.{PathEl}
use Rattle.values.specs.declared.element.PathEl.TheVariants.{MoveTo, LineTo, QuadTo, CurveTo, ClosePath}
use Rattle.values.specs.declared.error.Stream.TheVariants.{PathTags, PathData}
use Rattle.values.specs.declared.error.EncodeError.{EncodeError}
use Rattle.encoding.specs.Sheet.{Streams, Sheet, sheet, with_paths, with_outlines}
use Rattle.encoding.specs.Promises.{Rule, reason, Answered, path_sheet}
use Rattle.encoding.specs.Rules.{Nothing, added}
use Rattle.encoding.specs.Paths.{move_rule, line_rule, quad_rule, cubic_rule, close_rule, finish_rule, path_opened, path_abandoned}

-- the call that belongs to an element
abbrev pub element_rule : PathEl → Rule Nothing
element_rule (MoveTo x y) = move_rule x y
element_rule (LineTo x y) = line_rule x y
element_rule (QuadTo x1 y1 x2 y2) = quad_rule x1 y1 x2 y2
element_rule (CurveTo x1 y1 x2 y2 x3 y3) = cubic_rule x1 y1 x2 y2 x3 y3
element_rule ClosePath = close_rule

-- what elements leave in turn
abbrev pub after_elements : List PathEl → Sheet → Sheet
after_elements [] s = s
after_elements (x ∷ xs) s = after_elements xs ((element_rule x).next s)

-- a refusal, and the place of the step that was declined
abbrev pub placed : ℕ → Option EncodeError → Option ElementError
placed i None = None
placed i (Some e) = Some (record { error = e; index = i })

abbrev pub first_placed : Option ElementError → Option ElementError → Option ElementError
first_placed None o = o
first_placed (Some x) o = Some x

-- the first step that is declined: an element from place i on, or the finish
abbrev pub list_reason : List PathEl → ℕ → Sheet → Streams → Option ElementError
list_reason [] i s m = placed i (reason (finish_rule true) s m)
list_reason (x ∷ xs) i s m = first_placed (placed i (reason (element_rule x) s m)) (list_reason xs (i + 1) ((element_rule x).next s) m)

abbrev pub list_told : Option ElementError → Bool → Result Bool ElementError
list_told None b = Ok b
list_told (Some x) b = Err x

abbrev pub list_leaves : Option ElementError → Sheet → Sheet → Sheet
list_leaves None was next = next
list_leaves (Some x) was next = was

-- what the elements leave in an open path, and once it is finished with its tag
abbrev pub drawn_by : List PathEl → Bool → Sheet → Sheet
drawn_by xs fill s = after_elements xs (path_opened fill s)

abbrev pub list_next : List PathEl → Bool → Sheet → Sheet
list_next xs fill s = (finish_rule true).next (drawn_by xs fill s)

-- `encode_path_elements`: whether anything was counted; declined, the path is given up
pub record Listed (xs : List PathEl) (fill : Bool) (s : Sheet) (m : Streams) (r : Result Bool ElementError) (s' : Sheet) : Type 0 where
  pub says : r ≡ list_told (list_reason xs 0 (path_opened fill s) m) (not ((finish_rule true).answer (drawn_by xs fill s) == 0))
  pub leaves : s' ≡ list_leaves (list_reason xs 0 (path_opened fill s) m) s (list_next xs fill s)

-- `encode_empty_shape`: a line of no length, and its path's tag
abbrev pub empty_shape_rule : Rule Nothing
empty_shape_rule = record {
  on = PathTags ∷ PathData ∷ [];
  own = λ s. None;
  answer = λ s. tt;
  next = λ s. with_outlines (added s.tags (tag 0x0d ∷ path_tag ∷ []))
      (record { words = added s.outlines.words (0 ∷ 0 ∷ 0 ∷ 0 ∷ []); paths = s.outlines.paths + 1; segments = s.outlines.segments + 1 }) s;
}

-- what a call of the Encoding that is brought the two streams of paths promises

abbrev pub OnPaths : {V : Type 0} → Rule V → Encoding → List PathTag → List ℕ → Result V EncodeError → Encoding → List PathTag → List ℕ → Type 0
OnPaths k e ts ws r e' ts' ws' = (m : Streams) → Answered k (sheet e (with_paths m ts ws)) (with_paths m ts ws) r (sheet e' (with_paths m ts' ws'))

-- and the elements from place i on, once the path is open: the Encoding comes back, with the count or the refusal

abbrev pub count_in : Result (Encoding × ℕ) (ElementError × Encoding) → Result ℕ ElementError
count_in (Ok x) = Ok x.1
count_in (Err x) = Err x.0

abbrev pub encoding_in : Result (Encoding × ℕ) (ElementError × Encoding) → Encoding
encoding_in (Ok x) = x.0
encoding_in (Err x) = x.1

abbrev pub all_told : Option ElementError → ℕ → Result ℕ ElementError
all_told None n = Ok n
all_told (Some x) n = Err x

pub record DrawnOut (xs : List PathEl) (s : Sheet) (m : Streams) (r : Result (Encoding × ℕ) (ElementError × Encoding)) (s' : Sheet) : Type 0 where
  pub says : count_in r ≡ all_told (list_reason xs 0 s m) ((finish_rule true).answer (after_elements xs s))
  pub leaves : s' ≡ list_leaves (list_reason xs 0 s m) (path_abandoned s) ((finish_rule true).next (after_elements xs s))

abbrev pub OnElements : List PathEl → PathEncoder → List PathTag → List ℕ → Result (Encoding × ℕ) (ElementError × Encoding) → List PathTag → List ℕ → Type 0
OnElements xs p ts ws r ts' ws' = (m : Streams) → DrawnOut xs (path_sheet p (with_paths m ts ws)) (with_paths m ts ws) r (sheet (encoding_in r) (with_paths m ts' ws'))

abbrev pub OnList : List PathEl → Bool → Encoding → List PathTag → List ℕ → Result Bool ElementError → Encoding → List PathTag → List ℕ → Type 0
OnList xs fill e ts ws r e' ts' ws' = (m : Streams) → Listed xs fill (sheet e (with_paths m ts ws)) (with_paths m ts ws) r (sheet e' (with_paths m ts' ws'))
