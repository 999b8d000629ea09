-- What a refusal means for the shares of pieces.
use Rattle.std.specs.Prelude.{ℕ}
use Rattle.plan.specs.Plan.{Plan}
use Rattle.plan.specs.Certificate.Certificate.{Certificate}
use Rattle.soundness.specs.declared.outline.refusals.code.Flaw.{Flaw}
use Rattle.shares.specs.declared.answer.SharesError.TheVariants.{Flaw as FlawTold}
use Rattle.shares.specs.Early.{FetchIsWrong}
use Rattle.shares.specs.Has.{HasShares}
use Rattle.shares.specs.Made.{ErrorMeans}

-- where a fault is told, there are no shares
abbrev pub FaultsHaveNoShares : Type 0
FaultsHaveNoShares = (p : Plan) (c : Certificate) (f : Flaw) → ErrorMeans p c (FlawTold f) → ¬ HasShares p c

-- so it is of a fetch line, whatever the lines behind it and the certificate say
abbrev pub WrongFetchesHaveNoShares : Type 0
WrongFetchesHaveNoShares = (p : Plan) (c : Certificate) (line : ℕ) → FetchIsWrong p line → ¬ HasShares p c
