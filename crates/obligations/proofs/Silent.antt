-- Where nothing is told, all is shown.
use Rattle.std.proofs.Common.{◌≡◌, ℕ, ◌-◌, ◌^◌, min, Bool, true, false, [], ◌∷◌, Option, Some, None, refl, sym, ap, ◌∙◌}
use Rattle.std.specs.Prelude.{◌&&◌, not, if◌then◌else◌}
use Rattle.soundness.specs.declared.outline.refusals.code.K.{K}
use Rattle.soundness.specs.declared.outline.refusals.code.Flaw.{Flaw}
use Rattle.plan.specs.Semantics.Setting.{or_else}
use Rattle.soundness.specs.Shown.{is_shown, all_shown}
use Rattle.obligations.specs.declared.context.judge.Part.{Part}
use Rattle.obligations.specs.declared.context.judge.Part.TheVariants.{Lines, Claims}
use Rattle.obligations.specs.Asked.{code_of, is_asked, is_of_claims, first_unmet, unless}
use Rattle.obligations.specs.Laws.{NothingToldIsShown, ShownIsNothingTold}
use Rattle.obligations.proofs.Unmet.{one, nothing}

pub or_none_parts : (a b : Option Flaw) → or_else a b ≡ None → (a ≡ None) × (b ≡ None)
or_none_parts None b h = (refl, h)
or_none_parts (Some f) b h = absurd (cc h)

-- what is told of one that is asked after or not, shown or not
abbrev pub tells : Bool → Bool → Flaw → Option Flaw
tells a s f = if a then (if s then None else Some f) else None

both_silent : (b s : Bool) (f : Flaw) → tells (not b) s f ≡ None → tells b s f ≡ None → s ≡ true
both_silent b true f h k = refl
both_silent true false f h k = absurd (cc k)
both_silent false false f h k = absurd (cc h)

pub silent : (a : Bool) (f : Flaw) → tells a true f ≡ None
silent true f = refl
silent false f = refl

unless_both : (k : K) (line : ℕ) (s : Bool) → unless Lines k line s ≡ None → unless Claims k line s ≡ None → s ≡ true
unfolding unless
unless_both k line s h g = both_silent (is_of_claims k) s (record { code = k; line = line }) h g

unless_shown : (part : Part) (k : K) (line : ℕ) (s : Bool) → s ≡ true → unless part k line s ≡ None
unfolding unless
unless_shown part k line s h = ap (λ (b : Bool). tells (is_asked part (record { code = k; line = line })) b (record { code = k; line = line })) h
    ∙ silent (is_asked part (record { code = k; line = line })) (record { code = k; line = line })

pub and_parts : (a b : Bool) → (a && b) ≡ true → (a ≡ true) × (b ≡ true)
and_parts true b h = (refl, h)
and_parts false b h = absurd (cc h)

pub nothing_told_is_shown : NothingToldIsShown
nothing_told_is_shown rules nests [] h k = refl
nothing_told_is_shown rules nests (o ∷ os) h k =
    let a = or_none_parts (unless Lines (code_of o.code) (min o.line (2 ^ 32 - 1)) (is_shown rules nests o)) (first_unmet rules nests Lines os) (sym (one rules nests Lines o os) ∙ h) in
    let b = or_none_parts (unless Claims (code_of o.code) (min o.line (2 ^ 32 - 1)) (is_shown rules nests o)) (first_unmet rules nests Claims os) (sym (one rules nests Claims o os) ∙ k) in
    let here : is_shown rules nests o ≡ true = unless_both (code_of o.code) (min o.line (2 ^ 32 - 1)) (is_shown rules nests o) a.0 b.0 in
    ap (λ (t : Bool). t && all_shown rules nests os) here ∙ nothing_told_is_shown rules nests os a.1 b.1

pub shown_is_nothing_told : ShownIsNothingTold
shown_is_nothing_told rules nests part [] h = nothing rules nests part
shown_is_nothing_told rules nests part (o ∷ os) h =
    let p = and_parts (is_shown rules nests o) (all_shown rules nests os) h in
    one rules nests part o os
    ∙ ap (λ (f : Option Flaw). or_else f (first_unmet rules nests part os)) (unless_shown part (code_of o.code) (min o.line (2 ^ 32 - 1)) (is_shown rules nests o) p.0)
    ∙ shown_is_nothing_told rules nests part os p.1
