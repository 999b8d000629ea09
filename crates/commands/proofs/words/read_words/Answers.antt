use Rattle.std.proofs.Common.{◌∙◌, ap, sym, option_and_then, inl}
use Rattle.std.proofs.lemmas.Result.{MatchResult-weaker, err_from_is_err_and}
use Rattle.commands.proofs.Named.{fails_for}
use Rattle.commands.specs.Line.{asked_of_command}
use Rattle.commands.proofs.words.read_words.Goals as goal

pub returns-in_err-matches : goal.returns-in_err-matches
returns-in_err-matches c =
    let p = err_from_is_err_and c.from_residual.result c.from_residual.ensures.1 in
    rw (p.1, p.2) (inl c.in_err-matches.ensures.fails)

pub returns : goal.returns
returns c =
    let asked = ap (option_and_then asked_of_command) c.in_ok-matches.ensures.found in
    MatchResult-weaker c.request_in.result c.request_in.ensures (λ request h. (c.in_ok-matches.ensures.fails, sym asked ∙ h))
    (λ error h. fails_for _ error _ asked h)
