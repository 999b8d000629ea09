-- How each line of a certificate is spelled: words with one blank between them.
use Rattle.std.specs.Prelude.{ℕ, List, [], ◌∷◌, codes}
use Rattle.spelling.specs.Words.Spelling.{separated_text, count_text, symbol_text, span_text, region_text}
use Rattle.plan.specs.declared.certificate.cert.Own.{Own}
use Rattle.plan.specs.declared.certificate.cert.Need.{Need}
use Rattle.plan.specs.declared.certificate.cert.Window.{Window}
use Rattle.plan.specs.Certificate.Certificate.{Claim}
use Rattle.cert.specs.Lines.{Line, Head, OwnLine, NeedLine, ClaimLine, WindowLine, End}

abbrev pub words : List (List ℕ) → List ℕ
words ws = separated_text 32 (λ w. w) ws

-- `own G REGION`
unfoldable pub own_text : Own → List ℕ
own_text o = words (codes "own" ∷ count_text o.group ∷ region_text o.region ∷ [])

-- `need G H REGION`
unfoldable pub need_text : Need → List ℕ
need_text n = words (codes "need" ∷ count_text n.group ∷ count_text n.needed ∷ region_text n.region ∷ [])

-- `claim C LINE bN F K REGION`
unfoldable pub claim_text : ℕ → Claim → List ℕ
claim_text k c = words (codes "claim" ∷ count_text k ∷ count_text c.line ∷ (98 ∷ count_text c.buffer) ∷ c.function ∷ count_text c.definition ∷ region_text c.region ∷ [])

-- `window C sN D n SPAN`
unfoldable pub window_text : Window → List ℕ
window_text w = words (codes "window" ∷ count_text w.claim ∷ symbol_text w.symbol ∷ count_text w.dimension ∷ count_text w.fold ∷ span_text w.span ∷ [])

abbrev pub line_text : Line → List ℕ
line_text Head = codes "cert"
line_text (OwnLine o) = own_text o
line_text (NeedLine n) = need_text n
line_text (ClaimLine k c) = claim_text k c
line_text (WindowLine w) = window_text w
line_text End = codes "end"
