use Rattle.std.proofs.Common.{◌≡◌, ◌≤◌, ◌∙◌, fold, length, string_bytes, sym, ap, subst}
use Rattle.std.specs.Str.{IsUtf8}
use Rattle.std.proofs.lemmas.Result.{IfOk-weaker}
use Rattle.tree.specs.Token.Lexical.{max_text}
use Rattle.crop.specs.Narrow.{with_one, wide_places, narrow_text}
use Rattle.crop.specs.Texts.{IsNarrow}
use Rattle.crop.proofs.NarrowText.{narrow_lexemes, narrow_lexed}
use Rattle.crop.proofs.Ascii.{lexed_utf8}
use Rattle.crop.proofs.narrow.narrow.Goals as goal

pub returns : goal.returns
returns c =
    let text = c.args.text.now in
    let ls = c.in-Ok.lexemes.items in
    let places = c.deref-2.ensures.value ∙ c.in_ok-places.ensures ∙ ap (wide_places 0) c.deref.ensures.value in
    let made = c.deref-3.ensures.value ∙ c.in_ok-made.ensures ∙ (λ i. fold with_one (c.as_bytes.ensures.value i) (places i)) in
    let lexed = narrow_lexed text ls c.in-Ok.ensures.found in
    let utf8 : IsUtf8 c.deref-3.result.now = subst IsUtf8 (sym made) (lexed_utf8 (narrow_text text ls) (narrow_lexemes 0 ls) lexed.tokens) in
    let few : length (narrow_text text ls) ≤ max_text = subst (λ n. n ≤ max_text) (sym lexed.long) c.in-Ok.ensures.long in
    IfOk-weaker c.from_utf8_lossy.result (λ t. IsUtf8 c.deref-3.result.now → string_bytes t ≡ c.deref-3.result.now) (λ t. IsNarrow text (string_bytes t)) (λ t h. record {
      lexemes = ls;
      tokens = c.in-Ok.ensures.found;
      only = c.in-Ok.ensures.only;
      is = h utf8 ∙ made;
      short = subst (λ k. length k ≤ max_text) (sym (h utf8 ∙ made)) few;
    }) c.from_utf8_lossy.ensures.ok
