use Rattle.std.proofs.Common.{◌≡◌, ◌+◌, ◌≤◌, ◌++◌, ◌∷◌, [], length, drop, Some, None, sym, ap, subst, ◌∙◌, arith}
use Rattle.std.proofs.lemmas.Result.{err_from_is_err_and}
use Rattle.tree.specs.Token.Lexical.{token_at, gap, bad_len}
use Rattle.tree.proofs.Lexemes.{lexeme, after_token, Kept, kept_first, kept_more, none_stands, only_ended, whole_found, has_token}
use Rattle.tree.proofs.token.lexer.scan.Goals as goal

pub loop-at-init : goal.loop-at-init
loop-at-init c =
    let text = c.args.text.now in
    subst (Kept text c.gap-at.result) (sym c.new-found.ensures.items) (subst (λ (at : _). Kept text at []) (sym c.gap-at.ensures.length)
    (kept_first text (subst (λ (at : _). at ≤ length text) c.gap-at.ensures.length c.gap-at.ensures.within)))

pub returns-in_default-clause-refused : goal.returns-in_default-clause-refused
returns-in_default-clause-refused c =
    let text = c.args.text.now in
    let none : token_at (drop c.loop-at.at text) ≡ None = ap token_at (sym c.split_at.ensures.back) ∙ sym c.token_at.ensures.value ∙ c.in_default.is in
    let long = c.bad_len.ensures.length ∙ ap bad_len c.split_at.ensures.back in (
      c.requires,
      record { within = c.loop-at-test.true; reached = (c.loop-at.found.items, c.loop-at.invariant.reached); no_token = none; end = ap (λ (n : _). c.loop-at.at + n) long },
      none_stands text c.loop-at.at c.loop-at.found.items c.loop-at-test.true none c.loop-at.invariant.only,
    )

pub returns-in_err-push-clause-refused : goal.returns-in_err-push-clause-refused
returns-in_err-push-clause-refused c =
    let text = c.args.text.now in
    let here : token_at (drop c.loop-at.at text) ≡ Some (c.in-Some.token, c.in-Some.len) = ap token_at (sym c.split_at.ensures.back) ∙ sym c.in-Some.ensures.value in
    let p = err_from_is_err_and c.from_residual.result c.from_residual.ensures.1 in
    let stands = has_token text c.loop-at.at c.in-Some.len c.loop-at.found.items c.in-Some.token c.loop-at-test.true here c.loop-at.invariant.reached in
    rw (p.1, p.2) (c.requires, stands.0, stands.1)

pub loop-at-preserved : goal.loop-at-preserved
loop-at-preserved c =
    let text = c.args.text.now in
    let at = c.loop-at.at in
    let len = c.in-Some.len in
    let here : token_at (drop at text) ≡ Some (c.in-Some.token, len) = ap token_at (sym c.split_at.ensures.back) ∙ sym c.in-Some.ensures.value in
    let rest : length c.split_at.result.1.now + at ≡ length text = omega (arith, c.split_at.ensures.back_len) in
    let fits : at + len ≤ length text = omega (arith, c.in-Some.ensures.within, rest) in
    let width : c.gap.result ≡ gap (drop (at + len) text) = c.gap.ensures.length ∙ ap gap c.split_at-in-loop-at.ensures.back in
    let inside : at + len + c.gap.result ≤ length text = omega (arith, c.gap.ensures.within, c.split_at-in-loop-at.ensures.back_len) in
    let pushed : c.push.new.self.items ≡ c.loop-at.found.items ++ lexeme c.in-Some.token at (at + len) ∷ [] = c.in_ok-push.ensures.items in
    let next : at + len + c.gap.result ≡ after_token text (at + len) = ap (λ (k : _). at + len + k) width in
    kept_more text at len (at + len + c.gap.result) c.loop-at.found.items c.push.new.self.items c.in-Some.token c.loop-at-test.true c.in-Some.ensures.some here inside next pushed c.loop-at.invariant

pub returns-clause-found : goal.returns-clause-found
returns-clause-found c = whole_found c.args.text.now c.loop-at.at c.loop-at.found.items c.loop-at-test.false c.loop-at.invariant.reached

pub returns-clause-only : goal.returns-clause-only
returns-clause-only c = only_ended c.args.text.now c.loop-at.at c.loop-at.found.items c.loop-at-test.false c.loop-at.invariant.only
