-- Statements that are one line, and what a claim asks of the statement that makes it.
use Rattle.std.specs.Prelude.{ℕ, filter, List, [], ◌∷◌, map}
use Rattle.std.specs.List.{list_any}
use Rattle.plan.specs.Plan.{Statement, Seq, For, First, Guard}
use Rattle.soundness.specs.Origins.{Outline, or_same}
use Rattle.soundness.specs.Obligations.{Rules, region_of, NotMade, Inside, Named, InTurn, turn_code, turn_line, Obligation, obligation, follows}
use Rattle.obligations.specs.declared.context.known.Known.{Known as KnownHeld}
use Rattle.obligations.specs.Context.Around.{known_of}

-- a statement that is one line
abbrev pub IsLine : Statement → Type 0
IsLine (Seq all) = ⊥
IsLine (For i x kind body) = ⊥
IsLine (First i a b) = ⊥
IsLine (Guard low high body) = ⊥
IsLine _ = Unit {0}

-- what a claim asks for of the claims of the definition before among these: that its region lies in theirs
abbrev pub asked_by_claims : Outline → Rules → KnownHeld → ℕ → List ℕ → List Obligation
asked_by_claims outline rules k c ds =
    map (λ d. obligation outline rules NotMade (rules.claim_line c) (known_of k []) (Inside (region_of outline rules c) (region_of outline rules d))) (filter (λ d. follows outline rules d c) ds)

-- what a claim asks of the order of a nest of updates
abbrev pub asked_of_turn : Outline → Rules → ℕ → KnownHeld → Statement → ℕ → Obligation
asked_of_turn outline rules begin k a c =
    obligation outline rules (turn_code (turn_line outline rules a begin c)) (or_same (turn_line outline rules a begin c) (rules.claim_line c)) (known_of k []) (InTurn c a)

-- what a claim asks of a nest of updates: that it stands in the block of a claim of the definition before, that it is in turn,
-- and that those claims' regions hold the claim's
abbrev pub asked_of_updates : Outline → Rules → ℕ → KnownHeld → Statement → ℕ → List Obligation
asked_of_updates outline rules begin k a c =
    obligation outline rules NotMade (rules.claim_line c) (known_of k []) (Named (list_any (λ d. follows outline rules d c) k.own.items))
    ∷ asked_of_turn outline rules begin k a c ∷ asked_by_claims outline rules k c k.own.items
