-- The last entries of a list.
use Rattle.std.proofs.Common.{◌≡◌, ℕ, ◌+◌, ◌-◌, ◌≤◌, List, [], ◌++◌, length, take, refl, arith, length-append, length-set, get_or-append-add}
use lib.Seq.{take-append-add}
use Rattle.std.proofs.lemmas.List.{length-take-le, take-take, set-append_right}
use Rattle.geometry.specs.declared.points.Point.{Point}
use Rattle.geometry.specs.declared.points.Segment.{Segment}
use Rattle.geometry.specs.declared.points.Segment.TheVariants.{Line, Quad, Cubic}
use Rattle.geometry.specs.Segments.{end_point}
use Rattle.monoid.specs.declared.path.PathTag.{PathTag}
use Rattle.monoid.specs.PathTags.{tag}
use Rattle.path.specs.Entries.{end_last, drop_point, last_point, point_words, segment_words}

-- behind other entries
pub last_point-append : (xs ys : List ℕ) → 2 ≤ length ys → last_point (xs ++ ys) ≡ last_point ys
unfolding last_point
last_point-append xs ys h =
    let l : length (xs ++ ys) ≡ length xs + length ys = length-append xs ys in
    let i : length (xs ++ ys) - 2 ≡ length xs + (length ys - 2) = omega arith in
    let j : length (xs ++ ys) - 1 ≡ length xs + (length ys - 1) = omega arith in
    let a = get_or-append-add xs ys (length ys - 2) 0 in
    let b = get_or-append-add xs ys (length ys - 1) 0 in
    cc

pub drop-point-append : (xs ys : List ℕ) → 2 ≤ length ys → drop_point (xs ++ ys) ≡ xs ++ drop_point ys
unfolding drop_point
drop-point-append xs ys h =
    let l : length (xs ++ ys) ≡ length xs + length ys = length-append xs ys in
    let i : length (xs ++ ys) - 2 ≡ length xs + (length ys - 2) = omega arith in
    let a = take-append-add xs ys (length ys - 2) in
    cc

pub end_last-append : (xs ys : List PathTag) → 1 ≤ length ys → end_last (xs ++ ys) ≡ xs ++ end_last ys
unfolding end_last
end_last-append xs ys h =
    let l : length (xs ++ ys) ≡ length xs + length ys = length-append xs ys in
    let i : length (xs ++ ys) - 1 ≡ length xs + (length ys - 1) = omega arith in
    let g = get_or-append-add xs ys (length ys - 1) (tag 0) in
    let k : length xs ≤ length xs + (length ys - 1) = omega arith in
    let j : length xs + (length ys - 1) - length xs ≡ length ys - 1 = omega arith in
    let a = λ (v : PathTag). set-append_right xs ys (length xs) (length xs + (length ys - 1)) v refl k in
    rw (i, g, a _, j)

pub length-end_last : (ts : List PathTag) → length (end_last ts) ≡ length ts
unfolding end_last
length-end_last ts = simp length-set

-- of a point and a segment that were just written
pub drop-point-one : (p : Point) → drop_point (point_words p) ≡ []
unfolding drop_point
drop-point-one p = refl

pub last_point-segment : (s : Segment) → last_point (segment_words s) ≡ end_point s
unfolding last_point
last_point-segment (Line p) = refl
last_point-segment (Quad p q) = refl
last_point-segment (Cubic p q r) = refl

pub two-words : (s : Segment) → 2 ≤ length (segment_words s)
two-words (Line p) = omega arith
two-words (Quad p q) = omega arith
two-words (Cubic p q r) = omega arith

-- of the first so many
pub drop-point-take : (ws : List ℕ) (n : ℕ) → n ≤ length ws → take (n - 2) ws ≡ drop_point (take n ws)
unfolding drop_point
drop-point-take ws n h =
    let l : length (take n ws) ≡ n = length-take-le n ws h in
    let le : n - 2 ≤ n = omega arith in
    let t : take (n - 2) (take n ws) ≡ take (n - 2) ws = take-take (n - 2) n ws le in
    cc
