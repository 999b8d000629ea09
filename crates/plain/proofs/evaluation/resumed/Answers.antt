use Rattle.std.proofs.Common.{◌≡◌, ap, sym, ◌∙◌, ◌++◌, ◌∷◌, [], List, map, length, refl, Some, get_or, rules, w64, to_z, of_z, ℤ}
use Rattle.std.proofs.lemmas.Int.{to_z-of_z}
use Rattle.std.proofs.lemmas.List.{map-append}
use Rattle.plain.specs.declared.scope.Answer.{Answer}
use Rattle.plain.specs.Sites.{site_of}
use Rattle.plain.specs.Works.{entry_of}
use Rattle.plain.proofs.Machine.{get_map}
use Rattle.plain.proofs.Known.{get_at}
use Rattle.plain.proofs.evaluation.resumed.Goals as goal

pub returns : goal.returns
returns c =
    let calls = c.args.frame.calls.items in
    let n : c.len.result ≡ length c.args.frame.answers.items = search rules in
    let at = c.index.ensures ∙ ap (λ m. get_or calls m c.index.result.now) n in
    record {
      function = refl;
      stage = refl;
      at = refl;
      bindings = refl;
      calls = refl;
      site = site_of c.index.result.now;
      next = get_map site_of calls (length c.args.frame.answers.items) c.index.result.now (get_at calls (length c.args.frame.answers.items) c.index.result.now c.requires ∙ ap Some (sym at));
      answers = ap (λ (l : List Answer). map entry_of l) c.in_ok-push.ensures.items
          ∙ map-append entry_of c.args.frame.answers.items (record { name = c.index.result.now.name; at = c.args.at; number = to_z w64 (of_z w64 c.args.number) } ∷ [])
          ∙ ap (λ (z : ℤ). map entry_of c.args.frame.answers.items ++ record { name = c.index.result.now.name.now; at = c.args.at.items; number = z } ∷ []) (to_z-of_z w64 c.args.number (search rules));
    }
