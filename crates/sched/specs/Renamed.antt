-- Forms, spans and steps under other names of their symbols: those of the plan for those of a nest.
use Rattle.std.specs.Prelude.{ℕ, ◌==◌, pos, if◌then◌else◌, List, [], ◌∷◌, ◌++◌, Option, Some, None}
use Rattle.lin.specs.Forms.{Form, number, combined}
use Rattle.lin.specs.declared.form.Multiple.{Multiple}
use Rattle.lin.specs.declared.span.Span1.{Span1}
use Rattle.sched.specs.declared.skeleton.Step.{Step}
use Rattle.sched.specs.declared.skeleton.Step.TheVariants.{Turns, Named, Tested}
use Rattle.sched.specs.Standing.{◌>>=◌}

-- ---- names

-- numbers and what they stand for
abbrev pub Pairs : Type 0
Pairs = List (ℕ × ℕ)

-- what a number stands for by the last of these pairs, or else this
abbrev pub last_value : Option ℕ → Pairs → ℕ → Option ℕ
last_value o [] k = o
last_value o (p ∷ ps) k = if p.0 == k then last_value (Some p.1) ps k else last_value o ps k

abbrev pub value_in : Pairs → ℕ → Option ℕ
value_in ps k = last_value None ps k

-- ---- forms

abbrev pub symbol : ℕ → Form
symbol s = record { constant = pos 0; terms = record { symbol = s; factor = pos 1 } ∷ [] }

-- a form, and these multiples under the names of their symbols; None where one has no name, or a form leaves the limits
abbrev pub terms_renamed : Pairs → List Multiple → Form → Option Form
terms_renamed m [] made = Some made
terms_renamed m (t ∷ ts) made = value_in m t.symbol >>= λ s. combined made t.factor (symbol s) >>= λ one. terms_renamed m ts one

abbrev pub form_renamed : Pairs → Form → Option Form
form_renamed m f = terms_renamed m f.terms (number f.constant)

-- some that are renamed, and behind them these
abbrev pub behind : {A : Type 0} → (A → Option A) → List A → List A → Option (List A)
behind r made [] = Some made
behind r made (x ∷ xs) = r x >>= λ y. behind r (made ++ y ∷ []) xs

abbrev pub forms_renamed : Pairs → List Form → Option (List Form)
forms_renamed m fs = behind (form_renamed m) [] fs

abbrev pub span_renamed : Pairs → Span1 → Option Span1
span_renamed m x = forms_renamed m x.lower >>= λ low. forms_renamed m x.upper >>= λ high. Some (record { lower = low; upper = high })

abbrev pub region_renamed : Pairs → List Span1 → Option (List Span1)
region_renamed m xs = behind (span_renamed m) [] xs

-- a coordinate that has a form, or none
abbrev pub at_renamed : Pairs → Option Form → Option (Option Form)
at_renamed m None = Some None
at_renamed m (Some f) = form_renamed m f >>= λ g. Some (Some g)

abbrev pub coordinates_renamed : Pairs → List (Option Form) → Option (List (Option Form))
coordinates_renamed m os = behind (at_renamed m) [] os

-- ---- steps

abbrev pub step_renamed : Pairs → Step → Option Step
step_renamed m (Turns i x kind) = value_in m i >>= λ s. span_renamed m x >>= λ y. Some (Turns s y kind)
step_renamed m (Named i pick forms) = value_in m i >>= λ s. forms_renamed m forms >>= λ fs. Some (Named s pick fs)
step_renamed m (Tested low high) = form_renamed m low >>= λ l. form_renamed m high >>= λ h. Some (Tested l h)
