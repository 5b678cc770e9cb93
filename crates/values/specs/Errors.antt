-- The numbers of the refusals, the two checks of the streams, and the answer of a call. Assumes nothing.
use Rattle.std.specs.Prelude.{ℕ, Bool, cond, ◌||◌, List, [], ◌∷◌, Some, None, Ok, Err, Option, Result, nat_lt}
use Rattle.values.specs.declared.error.EncodeError.{EncodeError}
use Rattle.values.specs.declared.error.EncodeError.TheVariants.{ShortStream, FullStream, NotFinite, ZeroWidth, NoOpenClip}
use Rattle.values.specs.declared.room.Room.{Room}
use Rattle.values.specs.Streams.{max_entries}

-- the number of each refusal
abbrev pub number : EncodeError → ℕ
number (ShortStream x) = 1
number (FullStream x) = 2
number NotFinite = 3
number ZeroWidth = 4
number NoOpenClip = 5

-- the first stream that is shorter than its used length
abbrev pub short : List Room → Option EncodeError
short [] = None
short (a ∷ rest) = cond (nat_lt a.space a.used) (Some (ShortStream a.stream)) (short rest)

-- the first stream that is used past its end or its maximum
abbrev pub full : List Room → Option EncodeError
full [] = None
full (a ∷ rest) = cond (nat_lt a.space a.used || nat_lt (max_entries a.stream) a.used) (Some (FullStream a.stream)) (full rest)

abbrev pub when : Bool → EncodeError → Option EncodeError
when b e = cond b (Some e) None

abbrev pub unless : Bool → EncodeError → Option EncodeError
unless b e = cond b None (Some e)

-- the first of two reasons
abbrev pub or_else : Option EncodeError → Option EncodeError → Option EncodeError
or_else None b = b
or_else (Some e) b = Some e

-- the answer: the reason to decline, or the value
abbrev pub told : {V : Type 0} → Option EncodeError → V → Result V EncodeError
told None v = Ok v
told (Some e) v = Err e
