-- What draw tags do to the clip stack: pops, and then pushes. Assumes nothing.
use Rattle.std.specs.Prelude.{ℕ, ◌+◌, ◌-◌, ◌^◌, ◌<◌, min, cond, ◌==◌}
use Rattle.monoid.specs.declared.clip.ClipBic.{ClipBic}
use Rattle.monoid.specs.declared.draw.DrawTag.{DrawTag}

pub record Bic : Type 0 where
  pub pops : ℕ
  pub pushes : ℕ

abbrev pub bic : ℕ → ℕ → Bic
bic a b = record { pops = a; pushes = b }

abbrev pub bic_of : ClipBic → Bic
bic_of m = bic m.a m.b

abbrev pub still : Bic
still = bic 0 0

-- x and then y: pushes of x and pops of y that meet cancel out
abbrev pub after : Bic → Bic → Bic
after x y = bic (x.pops + y.pops - min x.pushes y.pops) (x.pushes + y.pushes - min x.pushes y.pops)

-- 49 begins a clip, 21 ends one, and any other tag leaves the stack
abbrev pub from_tag : DrawTag → Bic
from_tag t = cond (t.0 == 0x49) (bic 0 1) (cond (t.0 == 0x21) (bic 1 0) still)

abbrev pub Small : Bic → Type 0
Small x = (x.pops < 2 ^ 32) × (x.pushes < 2 ^ 32)
