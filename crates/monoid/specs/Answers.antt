-- The answers of the calls that combine and reduce, with the numbers of their refusals. Assumes nothing.
use Rattle.std.specs.Prelude.{◌≡◌, ℕ, ◌<◌, ◌≤◌, List, length, take, Ok, Err, Result, slice_index_or}
use Rattle.monoid.specs.declared.CountError.{CountError}
use Rattle.monoid.specs.declared.CountError.TheVariants.{DoesNotFit, ShortTable, TooManySources}

-- the number of each refusal
abbrev pub number : CountError → ℕ
number DoesNotFit = 10
number ShortTable = 11
number TooManySources = 12

-- the most sources that are reduced
abbrev pub most : ℕ
most = 1_048_576

-- the check of a number of sources: more than the most are declined
abbrev pub FewEnough : ℕ → Result (Unit {0}) CountError → Type 0
FewEnough sources (Ok u) = sources ≤ most
FewEnough sources (Err e) = (most < sources) × (e ≡ TooManySources)

-- a combination: it is declined exactly where the combined meaning does not fit, and has that meaning otherwise
abbrev pub Combined : {M A : Type 0} → (M → A) → (A → Type 0) → A → Result M CountError → Type 0
Combined meaning Fits m (Ok x) = Fits m × (meaning x ≡ m)
Combined meaning Fits m (Err e) = (Fits m → ⊥) × (number e ≡ 10)

-- a reduction: `total` is what a list of sources reduces to
abbrev pub Reduced : {M S A : Type 0} → (M → A) → (List S → A) → List S → Result M CountError → Type 0
Reduced meaning total sources (Ok x) = (length sources ≤ most) × (meaning x ≡ total sources)
Reduced meaning total sources (Err e) = (most < length sources) × (number e ≡ 12)

-- a prefix table: row k has the meaning of the sources before k, and the rows past the sources are as they were
pub record Table {M S A : Type 0} (meaning : M → A) (total : List S → A) (sources : List S) (old new : List M) : Type 0 where
  pub few : length sources ≤ most
  pub room : length sources ≤ length old
  pub rows : (k : ℕ) → k < length sources → (d : M) → meaning (slice_index_or new k d) ≡ total (take k sources)
  pub rest : (k : ℕ) → length sources ≤ k → (d : M) → slice_index_or new k d ≡ slice_index_or old k d

-- why no table was made, by the number of sources and of rows: too many sources come first
abbrev pub Prevented : ℕ → ℕ → CountError → Type 0
Prevented sources rows DoesNotFit = ⊥
Prevented sources rows ShortTable = (sources ≤ most) × (rows < sources)
Prevented sources rows TooManySources = most < sources

-- a call that fills a table: declined, it leaves every row as it was
abbrev pub Tabled : {M S A : Type 0} → (M → A) → (List S → A) → List S → List M → List M → Result (Unit {0}) CountError → Type 0
Tabled meaning total sources old new (Ok u) = Table meaning total sources old new
Tabled meaning total sources old new (Err e) = (new ≡ old) × Prevented (length sources) (length old) e
