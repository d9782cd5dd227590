-- Numbers a + b√3 of whole numbers a and b, their order, and their fractions. Assumes nothing.
use Rattle.std.specs.Prelude.{ℕ, ◌+◌, ◌-◌, ◌*◌, ◌^◌, ◌<◌}

-- whole + root * √3
pub record Surd : Type 0 where
  pub whole : ℕ
  pub root : ℕ

abbrev pub surd : ℕ → ℕ → Surd
surd a b = record { whole = a; root = b }

abbrev pub plus : Surd → Surd → Surd
plus x y = surd (x.whole + y.whole) (x.root + y.root)

abbrev pub times : Surd → Surd → Surd
times x y = surd (x.whole * y.whole + 3 * (x.root * y.root)) (x.whole * y.root + x.root * y.whole)

abbrev pub scaled : ℕ → Surd → Surd
scaled n x = surd (n * x.whole) (n * x.root)

-- x < y. Let u and v be the differences y - x of the two parts: the question is whether -v√3 < u. To square and keep the sign, z to z|z|, keeps every order. So it is
-- whether 0 < u|u| + 3v|v|. Here `-` ends at 0: what is positive of u and v stands in `excess y x`, and what is negative in `excess x y`.
abbrev pub excess : Surd → Surd → ℕ
excess x y = (x.whole - y.whole) ^ 2 + 3 * (x.root - y.root) ^ 2

abbrev pub Less : Surd → Surd → Type 0
Less x y = excess x y < excess y x

-- over / under, where under is above 0
pub record Fraction : Type 0 where
  pub over : Surd
  pub under : Surd

abbrev pub fraction : Surd → Surd → Fraction
fraction x y = record { over = x; under = y }

-- m / n lies below the fraction x, and above it
abbrev pub Below : ℕ → ℕ → Fraction → Type 0
Below m n x = Less (scaled m x.under) (scaled n x.over)

abbrev pub Above : ℕ → ℕ → Fraction → Type 0
Above m n x = Less (scaled n x.over) (scaled m x.under)
