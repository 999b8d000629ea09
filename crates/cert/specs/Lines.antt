-- The lines of a certificate.
use Rattle.std.specs.Prelude.{ℕ, ◌+◌, List, [], ◌∷◌, ◌++◌, map}
use Rattle.plan.specs.declared.certificate.cert.Own.{Own}
use Rattle.plan.specs.declared.certificate.cert.Need.{Need}
use Rattle.plan.specs.declared.certificate.cert.Window.{Window}
use Rattle.plan.specs.Certificate.Certificate.{Certificate, Claim, claim_of}
use Rattle.cert.specs.declared.line.Line.{Line as CodeLine}
use Rattle.cert.specs.declared.line.Line.TheVariants as code
use Rattle.cert.specs.declared.line.Mark.{Mark}
use Rattle.cert.specs.declared.line.Mark.TheVariants as mark

-- a claim with its number, and the parts of a certificate that need none
pub data Line : Type 0 where
  Head : Line
  OwnLine : Own → Line
  NeedLine : Need → Line
  ClaimLine : ℕ → Claim → Line
  WindowLine : Window → Line
  End : Line

abbrev pub line_of : CodeLine → Line
line_of code.Head = Head
line_of (code.Own o) = OwnLine o
line_of (code.Need n) = NeedLine n
line_of (code.Claim k c) = ClaimLine k (claim_of c)
line_of (code.Window w) = WindowLine w
line_of code.End = End

-- what of a line decides which lines may follow it
abbrev pub mark_of : Line → Mark
mark_of Head = mark.Head
mark_of (OwnLine o) = mark.Own o.group
mark_of (NeedLine n) = mark.Need
mark_of (ClaimLine k c) = mark.Claim k
mark_of (WindowLine w) = mark.Window
mark_of End = mark.End

-- claims are numbered by their lines
abbrev pub claim_lines : ℕ → List Claim → List Line
claim_lines k [] = []
claim_lines k (c ∷ cs) = ClaimLine k c ∷ claim_lines (k + 1) cs

abbrev pub lines_of : Certificate → List Line
lines_of c = Head ∷ (map OwnLine c.own ++ (map NeedLine c.needs ++ (claim_lines 0 c.claims ++ (map WindowLine c.windows ++ End ∷ []))))

-- ---- what a line adds to a certificate

abbrev pub own_in : Line → List Own
own_in (OwnLine o) = o ∷ []
own_in _ = []

abbrev pub need_in : Line → List Need
need_in (NeedLine n) = n ∷ []
need_in _ = []

abbrev pub claim_in : Line → List Claim
claim_in (ClaimLine k c) = c ∷ []
claim_in _ = []

abbrev pub window_in : Line → List Window
window_in (WindowLine w) = w ∷ []
window_in _ = []

abbrev pub with_line : Certificate → Line → Certificate
with_line c l = record { own = c.own ++ own_in l; needs = c.needs ++ need_in l; claims = c.claims ++ claim_in l; windows = c.windows ++ window_in l }
