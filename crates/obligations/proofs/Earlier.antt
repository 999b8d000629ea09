-- Which of two flaws is told first, and what is told before the other.
use Rattle.std.proofs.Common.{◌≡◌, ℕ, zero, suc, ◌+◌, ◌-◌, ◌^◌, ◌<◌, min, Bool, true, false, List, [], ◌∷◌, Option, Some, None, refl, sym, ap, ◌∙◌, arith, inl, inr, subst}
use Rattle.std.specs.Prelude.{◌&&◌, ◌||◌, ◌==◌, nat_lt, if◌then◌else◌, ◌⊎◌}
use Rattle.std.proofs.lemmas.Bool.Decides.{nat_tests}
use Rattle.soundness.specs.Outline.Refusals.Codes.{number_of, is_before}
use Rattle.soundness.specs.declared.outline.refusals.code.Flaw.{Flaw}
use Rattle.soundness.specs.Obligations.{Rules, Obligation}
use Rattle.soundness.specs.Shown.{Nests, is_shown, all_shown, first_fault}
use Rattle.plan.specs.Semantics.Setting.{or_else}
use Rattle.obligations.specs.declared.context.judge.Part.{Part}
use Rattle.obligations.specs.declared.context.judge.Part.TheVariants.{Before}
use Rattle.obligations.specs.Asked.{code_of, flaw_of, is_asked, of_part, told, first_unmet, unless}
use Rattle.obligations.specs.Laws.{PartIsShown, LaterIsSilent, ToldIsAsked}
use Rattle.obligations.proofs.Unmet.{one, nothing}
use Rattle.obligations.proofs.Silent.{or_none_parts, and_parts, tells, silent}

-- ---- the order

or_parts : (a b : Bool) → (a || b) ≡ true → (a ≡ true) ⊎ (b ≡ true)
or_parts true b h = inl refl
or_parts false b h = inr h

or_left : (a b : Bool) → a ≡ true → (a || b) ≡ true
or_left a b h = ap (λ (c : Bool). c || b) h

or_right : (a b : Bool) → b ≡ true → (a || b) ≡ true
or_right true b h = refl
or_right false b h = h

neither : (a b : Bool) → (a || b) ≡ false → (a ≡ false) × (b ≡ false)
neither true b h = absurd (cc h)
neither false b h = (refl, h)

not_second : (a b : Bool) → (a && b) ≡ false → a ≡ true → b ≡ false
not_second true b h e = h
not_second false b h e = absurd (cc e)

both : (a b : Bool) → a ≡ true → b ≡ true → (a && b) ≡ true
both a b h k = λ i. h i && k i

below_or_at : (m n : ℕ) → m < n + 1 → (m < n) ⊎ (m ≡ n)
below_or_at zero zero h = inr refl
below_or_at zero (suc n) h = inl (omega arith)
below_or_at (suc m) zero h = absurd (omega (arith, h))
below_or_at (suc m) (suc n) h = elim (below_or_at m n (omega (arith, h))) [ inl less ↦ inl (omega (arith, less)) | inr e ↦ inr (ap suc e) ]

-- what is before one is before another that is not before that
module _ (x f g : Flaw) (k : is_before g f ≡ false) where
  apart : (nat_lt g.line f.line ≡ false) × ((g.line == f.line && nat_lt (number_of g.code) (number_of f.code)) ≡ false)
  apart = neither (nat_lt g.line f.line) (g.line == f.line && nat_lt (number_of g.code) (number_of f.code)) k

  not_later : f.line < g.line + 1
  not_later = let a = apart.0 in grind (arith, nat_tests)

  at_earlier : nat_lt x.line f.line ≡ true → is_before x g ≡ true
  at_earlier h =
      let low = not_later in
      let less : nat_lt x.line g.line ≡ true = grind (arith, nat_tests) in
      or_left (nat_lt x.line g.line) (x.line == g.line && nat_lt (number_of x.code) (number_of g.code)) less

  at_same : (x.line == f.line) ≡ true → nat_lt (number_of x.code) (number_of f.code) ≡ true → is_before x g ≡ true
  at_same h l =
      elim (below_or_at f.line g.line not_later) [
        | inl less ↦
            let early : nat_lt x.line g.line ≡ true = grind (arith, nat_tests) in
            or_left (nat_lt x.line g.line) (x.line == g.line && nat_lt (number_of x.code) (number_of g.code)) early
        | inr e ↦
            let back : (g.line == f.line) ≡ true = grind (arith, nat_tests) in
            let high = not_second (g.line == f.line) (nat_lt (number_of g.code) (number_of f.code)) apart.1 back in
            let same : (x.line == g.line) ≡ true = grind (arith, nat_tests) in
            let low : nat_lt (number_of x.code) (number_of g.code) ≡ true = grind (arith, nat_tests) in
            or_right (nat_lt x.line g.line) (x.line == g.line && nat_lt (number_of x.code) (number_of g.code))
            (both (x.line == g.line) (nat_lt (number_of x.code) (number_of g.code)) same low)
      ]

  pub before_too : is_before x f ≡ true → is_before x g ≡ true
  before_too h =
      elim (or_parts (nat_lt x.line f.line) (x.line == f.line && nat_lt (number_of x.code) (number_of f.code)) h) [
        | inl less ↦ at_earlier less
        | inr same ↦
            let s = and_parts (x.line == f.line) (nat_lt (number_of x.code) (number_of f.code)) same in
            at_same s.0 s.1
      ]

-- ---- what is told of a part

none_told : (o : Option Obligation) → told o ≡ None → o ≡ None
none_told None h = refl
none_told (Some o) h = absurd (cc h)

not_found : (o x : Option Obligation) (s b : Bool) (y : Obligation) → (o ≡ None → b ≡ true) → o ≡ x → (if s then x else Some y) ≡ None → (s && b) ≡ true
not_found o x true b y h e k = h (e ∙ k)
not_found o x false b y h e k = absurd (cc k)

module _ (rules : Rules) (nests : Nests) where
  all_found : (os : List Obligation) → first_fault rules nests os ≡ None → all_shown rules nests os ≡ true
  all_found [] h = refl
  all_found (o ∷ os) h = not_found (first_fault rules nests os) (first_fault rules nests os) (is_shown rules nests o) (all_shown rules nests os) o (all_found os) refl h

  none_found : (os : List Obligation) → all_shown rules nests os ≡ true → first_fault rules nests os ≡ None
  none_found [] h = refl
  none_found (o ∷ os) h =
      let p = and_parts (is_shown rules nests o) (all_shown rules nests os) h in
      ap (λ (s : Bool). if s then first_fault rules nests os else Some o) p.0 ∙ none_found os p.1

pub part_is_shown : PartIsShown
unfolding first_unmet
part_is_shown rules nests part os = (
  λ h. all_found rules nests (of_part part os) (none_told (first_fault rules nests (of_part part os)) h),
  λ h. ap told (none_found rules nests (of_part part os) h),
)

-- ---- what is told before flaws

quiet : (a b s : Bool) (f : Flaw) → (b ≡ true → a ≡ true) → tells a s f ≡ None → tells b s f ≡ None
quiet a b true f h k = silent b f
quiet a false false f h k = refl
quiet true true false f h k = absurd (cc k)
quiet false true false f h k = absurd (cc (h refl))

module _ (f g : Flaw) (k : is_before g f ≡ false) where
  unless_later : (o : Obligation) (s : Bool) → unless (Before g) (code_of o.code) (min o.line (2 ^ 32 - 1)) s ≡ None → unless (Before f) (code_of o.code) (min o.line (2 ^ 32 - 1)) s ≡ None
  unfolding unless
  unless_later o s h = quiet (is_before (flaw_of o) g) (is_before (flaw_of o) f) s (flaw_of o) (before_too (flaw_of o) f g k) h

pub later_is_silent : LaterIsSilent
later_is_silent rules nests f g [] h k = nothing rules nests (Before f)
later_is_silent rules nests f g (o ∷ os) h k =
    let s = is_shown rules nests o in
    let a = or_none_parts (unless (Before g) (code_of o.code) (min o.line (2 ^ 32 - 1)) s) (first_unmet rules nests (Before g) os) (sym (one rules nests (Before g) o os) ∙ h) in
    one rules nests (Before f) o os
    ∙ (λ i. or_else (unless_later f g k o s a.0 i) (later_is_silent rules nests f g os a.1 k i))

-- ---- what is told is one of those that are asked after

asked_one : (part : Part) (x : Flaw) (a s : Bool) (rest : Option Flaw) (f : Flaw) → is_asked part x ≡ a → (rest ≡ Some f → is_asked part f ≡ true) → or_else (tells a s x) rest ≡ Some f → is_asked part f ≡ true
asked_one part x true true rest f is next h = next h
asked_one part x true false rest f is next h = let said : Some x ≡ Some f = h in let same : x ≡ f = cc said in subst (λ (y : Flaw). is_asked part y ≡ true) same is
asked_one part x false s rest f is next h = next h

unless_asked : (part : Part) (o : Obligation) (s : Bool) (rest : Option Flaw) (f : Flaw) → (rest ≡ Some f → is_asked part f ≡ true) → or_else (unless part (code_of o.code) (min o.line (2 ^ 32 - 1)) s) rest ≡ Some f → is_asked part f ≡ true
unfolding unless
unless_asked part o s rest f next h = asked_one part (flaw_of o) (is_asked part (flaw_of o)) s rest f refl next h

pub told_is_asked : ToldIsAsked
told_is_asked rules nests part f [] h = let none : None ≡ Some f = sym (nothing rules nests part) ∙ h in absurd (cc none)
told_is_asked rules nests part f (o ∷ os) h =
    unless_asked part o (is_shown rules nests o) (first_unmet rules nests part os) f (told_is_asked rules nests part f os) (sym (one rules nests part o os) ∙ h)
