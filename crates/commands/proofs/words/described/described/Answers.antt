use Rattle.std.proofs.Common.{◌≡◌, ◌≤◌, ◌<◌, ◌+◌, ◌∙◌, ℕ, List, suc, ap, sym, refl, map, length, drop, get_or, drop-cons, add-one}
use Rattle.std.proofs.lemmas.List.{at_drop_all}
use Rattle.clap.specs.Words.{App, Text, app_of, with_rule}
use Rattle.commands.specs.Described.{with_needed}
use Rattle.commands.specs.Line.{needed}
use Rattle.commands.proofs.words.described.described.Goals as goal

module _ {A : Type 0} (name : A → Text) (a b : App) (words : List A) (i : ℕ) where
  -- a word more of the command is one less to come
  next : (new : App) (d : A) → i < length words → new ≡ with_rule a (needed (name (get_or words i d))) → with_needed a (map name (drop i words)) ≡ b
      → with_needed new (map name (drop (i + 1) words)) ≡ b
  next new d lt is h = rw add-one (ap (λ x. with_needed x (map name (drop (suc i) words))) is ∙ ap (λ ws. with_needed a (map name ws)) (sym (drop-cons words i d lt)) ∙ h)

  last : length words ≤ i → with_needed a (map name (drop i words)) ≡ b → a ≡ b
  last le h = sym (at_drop_all (λ ws. with_needed a (map name ws)) words i le) ∙ h

pub loop-told-preserved : goal.loop-told-preserved
loop-told-preserved c =
    let added = c.in_ok-command.ensures in record {
      line = next _ _ _ c.args.words.now c.loop-told.told-index _ _ c.loop-told-test.true
          (added.shape c.word.ensures.1 ∙ ap (with_rule (app_of c.loop-told.command)) c.word.ensures.0) c.loop-told.invariant.line;
      local = rw (added.globals, c.loop-told.invariant.local, c.word.ensures.1) refl;
    }

pub returns : goal.returns
returns c = (last _ _ _ c.args.words.now c.loop-told.told-index c.loop-told-test.false c.loop-told.invariant.line, c.loop-told.invariant.local)
