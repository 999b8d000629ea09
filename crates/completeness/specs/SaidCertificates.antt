-- What the lines of a certificate's text ask of numbers.
use Rattle.std.specs.Prelude.{◌≡◌, Bool, true, ◌&&◌, nat_lt}
use Rattle.std.specs.List.{list_all}
use Rattle.spelling.specs.Words.Fitting.{fits_region}
use Rattle.spelling.specs.Sizes.Sizes.{fits_size}
use Rattle.cert.specs.Lines.{Line, Head, OwnLine, NeedLine, ClaimLine, WindowLine, End, lines_of}
use Rattle.cert.specs.Order.{fits_line}
use Rattle.cert.specs.Notation.{fits_certificate}
use Rattle.algo.specs.Words.{IsNamed}
use Rattle.completeness.specs.Laws.{OfWholeFunctions}

-- all that the line asks, but for the name of a claim's function
abbrev pub has_numbers : Line → Bool
has_numbers Head = true
has_numbers (OwnLine o) = fits_line (OwnLine o)
has_numbers (NeedLine n) = fits_line (NeedLine n)
has_numbers (ClaimLine k c) = nat_lt k 4096 && fits_size c.line && fits_size c.buffer && fits_size c.definition && fits_region c.region
has_numbers (WindowLine w) = fits_line (WindowLine w)
has_numbers End = true

-- the certificate that is made of an algorithm whose names a text says, under a schedule under which each stored function is a root function that is computed at no
-- loop, whatever the loops, fits its text where the numbers in its lines do
abbrev pub CertificatesFitByNumbers : Type 0
CertificatesFitByNumbers = OfWholeFunctions (λ a p c. IsNamed a → list_all has_numbers (lines_of c) ≡ true → fits_certificate c ≡ true)
