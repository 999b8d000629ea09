-- The numbers of codes, and which of two flaws is told.
use Rattle.std.specs.Prelude.{ℕ, ◌==◌, ◌&&◌, ◌||◌, nat_lt, Bool, if◌then◌else◌, Option, Some, None}
use Rattle.soundness.specs.declared.outline.refusals.code.Flaw.{Flaw}
use Rattle.soundness.specs.declared.outline.refusals.code.K.{K}
use Rattle.soundness.specs.declared.outline.refusals.code.K.TheVariants.{K1, K2, K3, K4, K5, K6, K7, K8, K9, K10, K11, K12, K13, K14}

-- 1 for K1, and so on
abbrev pub number_of : K → ℕ
number_of K1 = 1
number_of K2 = 2
number_of K3 = 3
number_of K4 = 4
number_of K5 = 5
number_of K6 = 6
number_of K7 = 7
number_of K8 = 8
number_of K9 = 9
number_of K10 = 10
number_of K11 = 11
number_of K12 = 12
number_of K13 = 13
number_of K14 = 14

-- one flaw is told before another: at an earlier line, or at the same line with a lower code
abbrev pub is_before : Flaw → Flaw → Bool
is_before f g = nat_lt f.line g.line || (f.line == g.line && nat_lt (number_of f.code) (number_of g.code))

-- the one of two flaws that is told first
abbrev pub lesser : Flaw → Flaw → Flaw
lesser f g = if is_before g f then g else f

-- the same where there may be none
abbrev pub least : Option Flaw → Option Flaw → Option Flaw
least None o = o
least (Some f) None = Some f
least (Some f) (Some g) = Some (lesser f g)
