-- How many claims a certificate has.
use Rattle.std.proofs.Common.{◌≡◌, List, [], ◌∷◌, length, map, refl, ap, arith}
use Rattle.plan.specs.declared.certificate.cert.Claim.{Claim as CodeClaim}
use Rattle.plan.specs.Certificate.Certificate.{claim_of}

pub claims_counted : (cs : List CodeClaim) → length (map claim_of cs) ≡ length cs
claims_counted [] = refl
claims_counted (c ∷ cs) = let rest = claims_counted cs in omega arith
