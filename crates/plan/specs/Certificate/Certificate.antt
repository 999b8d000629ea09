-- Certificates as such: what their text says, without where its parts are stored.
use Rattle.std.specs.Prelude.{ℕ, List, [], ◌∷◌, map, string_bytes}
use Rattle.lin.specs.declared.span.Span1.{Span1}
use Rattle.plan.specs.declared.certificate.cert.Own.{Own}
use Rattle.plan.specs.declared.certificate.cert.Need.{Need}
use Rattle.plan.specs.declared.certificate.cert.Window.{Window}
use Rattle.plan.specs.declared.certificate.cert.Claim.{Claim as CodeClaim}
use Rattle.plan.specs.declared.certificate.cert.Cert.{Cert}

-- after the statement that ends at the line, the buffer holds the definition of the function at every point of the region
pub record Claim : Type 0 where
  pub line : ℕ
  pub buffer : ℕ
  pub function : List ℕ
  pub definition : ℕ
  pub region : List Span1

pub record Certificate : Type 0 where
  pub own : List Own
  pub needs : List Need
  pub claims : List Claim
  pub windows : List Window

abbrev pub claim_of : CodeClaim → Claim
claim_of c = record { line = c.line; buffer = c.buffer; function = string_bytes c.function; definition = c.definition; region = c.region }

abbrev pub certificate_of : Cert → Certificate
certificate_of c = record { own = c.own.items; needs = c.needs.items; claims = map claim_of c.claims.items; windows = c.windows.items }
