-- No line that fits has a line feed in it.
use Rattle.std.proofs.Common.{◌≡◌, ℕ, true, List, [], ◌∷◌, refl}
use Rattle.std.specs.Prelude.{codes}
use Rattle.std.specs.List.{list_all}
use Rattle.spelling.specs.Words.Spelling.{count_text, symbol_text, span_text, region_text}
use Rattle.spelling.specs.Words.Laws.{is_feedless}
use Rattle.spelling.proofs.Feeds.{joined, count_feedless, symbol_feedless, span_feedless, region_feedless, name_feedless}
use Rattle.spelling.proofs.SizesSizes.{size_feedless}
use Rattle.spelling.specs.Lines.Lines.{is_line}
use Rattle.cert.specs.Lines.{Line, Head, OwnLine, NeedLine, ClaimLine, WindowLine, End}
use Rattle.cert.specs.Spelling.{words, own_text, need_text, claim_text, window_text, line_text}
use Rattle.cert.specs.Order.{fits_line}
use Rattle.cert.proofs.Tests.{both}
use Rattle.cert.proofs.Again.{own_fits, need_fits, claim_fits, window_fits}

words_feedless : (ws : List (List ℕ)) → list_all is_feedless ws ≡ true → is_feedless (words ws) ≡ true
words_feedless [] h = refl
words_feedless (w ∷ []) h = (both (is_feedless w) true h).0
words_feedless (w ∷ v ∷ ws) h =
    let p = both (is_feedless w) (list_all is_feedless (v ∷ ws)) h in
    joined w (32 ∷ words (v ∷ ws)) p.0 (words_feedless (v ∷ ws) p.1)

pub line_feedless : (l : Line) → fits_line l ≡ true → is_line (line_text l) ≡ true
unfolding own_text need_text claim_text window_text
line_feedless Head fits = refl
line_feedless (OwnLine o) fits =
    let f = own_fits o fits in
    words_feedless (codes "own" ∷ count_text o.group ∷ region_text o.region ∷ []) (rw (size_feedless o.group f.group, region_feedless o.region f.region) refl)
line_feedless (NeedLine n) fits =
    let f = need_fits n fits in
    words_feedless (codes "need" ∷ count_text n.group ∷ count_text n.needed ∷ region_text n.region ∷ [])
    (rw (size_feedless n.group f.group, size_feedless n.needed f.needed, region_feedless n.region f.region) refl)
line_feedless (ClaimLine k c) fits =
    let f = claim_fits k c fits in
    words_feedless (codes "claim" ∷ count_text k ∷ count_text c.line ∷ (98 ∷ count_text c.buffer) ∷ c.function ∷ count_text c.definition ∷ region_text c.region ∷ [])
    (rw (count_feedless k f.number, size_feedless c.line f.line, size_feedless c.buffer f.buffer, name_feedless c.function f.function, size_feedless c.definition f.definition, region_feedless c.region f.region) refl)
line_feedless (WindowLine w) fits =
    let f = window_fits w fits in
    words_feedless (codes "window" ∷ count_text w.claim ∷ symbol_text w.symbol ∷ count_text w.dimension ∷ count_text w.fold ∷ span_text w.span ∷ [])
    (rw (size_feedless w.claim f.claim, symbol_feedless w.symbol f.symbol, size_feedless w.dimension f.dimension, size_feedless w.fold f.fold, span_feedless w.span f.span) refl)
line_feedless End fits = refl
