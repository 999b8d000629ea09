-- How numbers, forms, spans, regions, names and types are spelled in a plan's text.
use Rattle.std.specs.Prelude.{ℕ, zero, suc, ℤ, pos, negsuc, List, [], ◌∷◌, ◌++◌}
use Rattle.std.specs.List.{flat_map}
use Rattle.std.specs.Fmt.{decimal, signed_decimal}
use Rattle.lin.specs.Forms.{Form}
use Rattle.lin.specs.declared.form.Multiple.{Multiple}
use Rattle.lin.specs.declared.span.Span1.{Span1}

-- ---- numbers

-- decimal digits without a leading zero, or a 0 alone
abbrev pub count_text : ℕ → List ℕ
count_text n = decimal n

-- a count, after a `-` where the number is below 0
abbrev pub number_text : ℤ → List ℕ
number_text z = signed_decimal z

-- `+C` or `-C`
abbrev pub signed_text : ℤ → List ℕ
signed_text (pos n) = 43 ∷ decimal n
signed_text (negsuc n) = 45 ∷ decimal (suc n)

-- `sN`
abbrev pub symbol_text : ℕ → List ℕ
symbol_text n = 115 ∷ decimal n

-- ---- lists

-- parts with a byte between one and the next
abbrev pub separated_text : {X : Type 0} → ℕ → (X → List ℕ) → List X → List ℕ
separated_text separator text [] = []
separated_text separator text (x ∷ []) = text x
separated_text separator text (x ∷ y ∷ ys) = text x ++ (separator ∷ separated_text separator text (y ∷ ys))

-- the same between brackets
abbrev pub bracketed_text : {X : Type 0} → ℕ → (X → List ℕ) → List X → List ℕ
bracketed_text separator text xs = 91 ∷ (separated_text separator text xs ++ 93 ∷ [])

-- what stands before the part of that number: the separator, and nothing before the first
abbrev pub separator_before : List ℕ → ℕ → List ℕ
separator_before separator zero = []
separator_before separator (suc part) = separator

-- ---- forms

-- `+C*sN` or `-C*sN`
unfoldable pub term_text : Multiple → List ℕ
term_text t = signed_text t.factor ++ (42 ∷ symbol_text t.symbol)

-- the constant and the terms, as `-1+4*s0-1*s3`
unfoldable pub form_text : Form → List ℕ
form_text form = number_text form.constant ++ flat_map term_text form.terms

-- forms by commas
abbrev pub forms_text : List Form → List ℕ
forms_text forms = separated_text 44 form_text forms

-- lower forms, `:`, upper forms
unfoldable pub span_text : Span1 → List ℕ
span_text span = forms_text span.lower ++ (58 ∷ forms_text span.upper)

-- `[span;span;..]`
unfoldable pub region_text : List Span1 → List ℕ
region_text spans = bracketed_text 59 span_text spans

-- sizes by commas, in brackets: `[W,..]`
unfoldable pub counts_text : List ℕ → List ℕ
counts_text counts = bracketed_text 44 count_text counts
