-- What a refusal of the checker says, and which of the flaws of lines is told.
use Rattle.std.specs.Prelude.{◌≡◌, ◌⊎◌, ℕ, ◌+◌, ◌-◌, ◌<◌, ◌==◌, ◌&&◌, nat_lt, if◌then◌else◌, Bool, length, Option, Some, None}
use Rattle.meaning.specs.Algorithm.{Algorithm}
use Rattle.plan.specs.Lines.{group_line}
use Rattle.plan.specs.Plan.{Plan}
use Rattle.plan.specs.Certificate.Certificate.{Certificate}
use Rattle.soundness.specs.declared.outline.refusals.code.Flaw.{Flaw as FlawHeld}
use Rattle.soundness.specs.declared.outline.refusals.code.K.TheVariants.{K14}
use Rattle.soundness.specs.Outline.Flaws.{first_of, line_told, told}
use Rattle.soundness.specs.Outline.Refusals.Codes.{number_of, lesser}
use Rattle.shares.specs.Before.{OwnLinesStand}
use Rattle.shares.specs.Early.{FetchIsWrong, FetchLinesStand}
use Rattle.shares.specs.Has.{HasShares}
use Rattle.shares.specs.Made.{own_place}
use Rattle.shares.specs.declared.answer.SharesError.{SharesError}
use Rattle.shares.specs.declared.answer.SharesError.TheVariants.{Flaw, Memory as Want}
use Rattle.validation.specs.Certificate.Certificate.{flaws_of_regions}
use Rattle.validation.specs.Groups.Lines.{flaws_of_groups}
use Rattle.audit.specs.declared.refusal.CheckError.{CheckError}
use Rattle.audit.specs.declared.refusal.CheckError.TheVariants.{Refused, Memory}
use Rattle.audit.specs.Verdict.Accepted.{IsAccepted}
use Rattle.audit.specs.Verdict.Faults.{IsFault, IsOfOutput, IsOfShares}
use Rattle.audit.specs.Verdict.Shown.Wide.{HasOutput}
use Rattle.audit.specs.Stand.{IsFlaw}

-- a yes: all that is asked of the plan is so
abbrev pub Accepts : Algorithm → Plan → Certificate → Type 0
Accepts a p c = IsAccepted a p c

-- an error of a decision: what a flaw tells is a fault, and want of memory says nothing
abbrev pub IsTold : Algorithm → Plan → Certificate → SharesError → Type 0
IsTold a p c (Flaw f) = IsFlaw a p c f
IsTold a p c Want = Unit {0}

-- the output's group lacks a point of the output
abbrev pub IsLacking : Algorithm → Plan → Certificate → FlawHeld → Type 0
IsLacking a p c f = IsOfOutput a p c (number_of f.code) f.line

-- the pieces have no shares, or the output's group lacks a point of the output
abbrev pub IsOfPieces : Algorithm → Plan → Certificate → FlawHeld → Type 0
IsOfPieces a p c f = IsOfShares a p c (number_of f.code) f.line ⊎ IsLacking a p c f

abbrev pub AreOfPieces : Algorithm → Plan → Certificate → SharesError → Type 0
AreOfPieces a p c (Flaw f) = IsOfPieces a p c f
AreOfPieces a p c Want = Unit {0}

-- of a flaw and of what the pieces share the first is told: the flaw where they have shares and no point of the output is lacking,
-- else the lesser of both
abbrev pub IsBesidePieces : Algorithm → Plan → Certificate → FlawHeld → SharesError → Type 0
IsBesidePieces a p c f (Flaw g) = ((HasShares p c × HasOutput a p) × (g ≡ f)) ⊎ ((other : FlawHeld) × IsOfPieces a p c other × (g ≡ lesser f other))
IsBesidePieces a p c f Want = Unit {0}

-- of a flaw and of what is wrong at own lines before a line, at fetch lines and with the output's group, the first is told: the flaw
-- where nothing is, else the lesser of both
abbrev pub IsBesideOwnLines : Algorithm → Plan → Certificate → ℕ → FlawHeld → SharesError → Type 0
IsBesideOwnLines a p c line f (Flaw g) = ((OwnLinesStand p c line × HasOutput a p) × (g ≡ f)) ⊎ ((other : FlawHeld) × IsOfPieces a p c other × (g ≡ lesser f other))
IsBesideOwnLines a p c line f Want = Unit {0}

-- the same of the first broken line of own and needed regions, where one is broken
abbrev pub IsBesideBroken : Algorithm → Plan → Certificate → FlawHeld → SharesError → Type 0
IsBesideBroken a p c f e = (broken : FlawHeld) → told (Some broken) ≡ first_of (flaws_of_regions p c) → IsBesideOwnLines a p c broken.line f e

-- K14 at a fetch line before this line, which is the first at which something is wrong
pub record IsEarlyFetch (p : Plan) (line : ℕ) (f : FlawHeld) : Type 0 where
  pub code_is : f.code ≡ K14
  pub wrong : FetchIsWrong p f.line
  pub before : f.line < line

-- of a flaw and of what is wrong at fetch lines before a line the first is told: the flaw where nothing is, else the lesser of both
abbrev pub IsBesideFetches : Plan → ℕ → FlawHeld → SharesError → Type 0
IsBesideFetches p line f (Flaw g) = (FetchLinesStand p line × (g ≡ f)) ⊎ ((other : FlawHeld) × IsEarlyFetch p line other × (g ≡ lesser f other))
IsBesideFetches p line f Want = Unit {0}

-- the same of the first broken line of groups, where one is broken
abbrev pub IsBesideBrokenGroups : Algorithm → Plan → Certificate → FlawHeld → SharesError → Type 0
IsBesideBrokenGroups a p c f e = (broken : FlawHeld) → told (Some broken) ≡ first_of (flaws_of_groups a p c) → IsBesideFetches p broken.line f e

-- a refusal is right: its code and line are those of a fault, and the plan is not accepted; want of memory says nothing
abbrev pub IsRefused : Algorithm → Plan → Certificate → CheckError → Type 0
IsRefused a p c (Refused code line) = IsFault a p c (number_of code) line × ¬ IsAccepted a p c
IsRefused a p c Memory = Unit {0}

-- the first of a number that may be too large and of what lines owe: at one line the number, since what is owed is shown where
-- numbers are small
abbrev pub wide_or_owed : Option FlawHeld → Option FlawHeld → Option FlawHeld
wide_or_owed None o = o
wide_or_owed (Some f) None = Some f
wide_or_owed (Some f) (Some g) = Some (if nat_lt g.line f.line then g else f)

-- what is owed, but for a symbol that stands elsewhere: it is so only where a claim names it though it is not bound there
abbrev pub but_symbols : Option FlawHeld → Option FlawHeld
but_symbols None = None
but_symbols (Some g) = if number_of g.code == 2 then None else Some g

-- the first of a flaw by names and limits and one by bounds
abbrev pub with_owed : FlawHeld → Option FlawHeld → FlawHeld
with_owed f None = f
with_owed f (Some g) = lesser f g

-- the group has no own line, and its last line is this one
abbrev pub IsUnownedEnd : Plan → Certificate → ℕ → ℕ → Type 0
IsUnownedEnd p c line n = (own_place c.own n ≡ length c.own) × (line_told (group_line p (n + 1)) - 1 ≡ line)

-- the line is the last of such a group
abbrev pub EndsUnowned : Plan → Certificate → ℕ → Type 0
EndsUnowned p c line = (n : ℕ) × (n < length p.groups) × IsUnownedEnd p c line n

-- the one of them that is told, where that of the certificate is known: a symbol that stands elsewhere is told as the claim that
-- names it, and where a K5 would be the first and stands at the last line of a group without an own region, as the test says, it
-- is the flaw by names and limits
abbrev pub told_first : FlawHeld → Option FlawHeld → Option FlawHeld → Bool → FlawHeld
told_first f owed None unowned = with_owed f owed
told_first f owed (Some h) unowned = if number_of (with_owed f (but_symbols owed)).code == 5 && unowned then f else with_owed f (but_symbols owed)
