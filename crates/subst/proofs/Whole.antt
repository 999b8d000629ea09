-- What the table of all bodies gives for an expression of the algorithm.
use Rattle.std.proofs.Common.{◌≡◌, ℕ, List, Bool, false, sym, ap, ◌∙◌, subst, arith, length}
use Rattle.std.specs.declared.string.String.{String}
use Rattle.std.specs.Global.{Global}
use Rattle.std.proofs.lemmas.List.{length-map}
use Rattle.tree.specs.Term.{Call, Term, term_of}
use Rattle.tree.specs.Substitution.{with_calls}
use Rattle.meaning.specs.Algorithm.{Algorithm, Function}
use Rattle.algo.specs.Parts.{function_of, functions_of}
use Rattle.algo.specs.declared.function.Function.{Function as Entry}
use Rattle.meaning.specs.Inlining.PutIn.{Replacement, put_in, with_definitions, comes_to_updates, calls_some, calls_updates}
use Rattle.meaning.specs.Inlining.Laws.{TakesNoUpdates}
use Rattle.subst.specs.declared.error.SubstError.{SubstError}
use Rattle.subst.specs.declared.error.SubstError.TheVariants.{Memory, Updates, TooLarge}
use Rattle.subst.specs.declared.built.Built.{Built}
use Rattle.subst.specs.declared.bodies.Body.{Body}
use Rattle.subst.specs.Limits.{IsWithin, IsRefused, IsMemory}
use Rattle.subst.specs.PutIn.{IsRefusalOf}
use Rattle.subst.specs.Table.{stands, marked, AreBodies, IsTableOf}

pub one_each : (stored : List Bool) (entries : List (String Global × Entry)) (fs : List Function) → functions_of entries ≡ fs → length stored ≡ length fs → length stored ≡ length entries
one_each stored entries fs same h = h ∙ ap length (sym same) ∙ length-map entries function_of

pub memory_is : (a : Algorithm) (stored : List Bool) (e : Term) (error : SubstError) → IsMemory error → IsRefusalOf a stored e error
memory_is a stored e Memory h = h
memory_is a stored e Updates h = absurd h
memory_is a stored e TooLarge h = absurd h

module _ (a : Algorithm) (stored : List Bool) (entries : List (String Global × Entry)) (kept bodies : List Body) (same : functions_of entries ≡ a.functions) (table : IsTableOf entries stored kept) (are : bodies ≡ kept) where
  pub kept_bodies : AreBodies bodies
  kept_bodies = subst (λ (l : List Body). AreBodies l) (sym are) table.kept

  standing : stands bodies ≡ with_definitions Call a.functions stored
  standing =
      let listed : stands kept ≡ with_definitions Call (functions_of entries) stored = λ i name at. table.calls name at i in
      ap (λ (l : List Body). stands l) are ∙ listed ∙ ap (λ (fs : List Function). with_definitions Call fs stored) same

  marking : marked bodies ≡ comes_to_updates a.functions stored
  marking =
      let listed : marked kept ≡ comes_to_updates (functions_of entries) stored = λ i name. table.updates name i in
      ap (λ (l : List Body). marked l) are ∙ listed ∙ ap (λ (fs : List Function). comes_to_updates fs stored) same

  -- whether the expression calls updates
  pub calls_are : (e : Term) (b c : Bool) → b ≡ calls_some (marked bodies) e → b ≡ c → calls_updates a stored e ≡ c
  calls_are e b c h is = sym (ap (λ (m : List ℕ → Bool). calls_some m e) marking) ∙ sym h ∙ is

  term_is : (e : Term) → with_calls (stands bodies) e ≡ put_in a stored e
  term_is e = ap (λ (r : Replacement). with_calls r e) standing

  -- what is made is the expression with the calls put in
  pub is_put_in : (e : Term) (b : Built) → calls_updates a stored e ≡ false → term_of b.expr ≡ with_calls (stands bodies) e → (term_of b.expr ≡ put_in a stored e) × TakesNoUpdates a stored e × IsWithin (term_of b.expr)
  is_put_in e b none made =
      let few = b.few in
      let flat = b.flat in
      let counted = b.counted in
      let deep = b.deep in
      (made ∙ term_is e, none, (omega (arith, few, counted), omega (arith, flat, deep)))

  -- and what is refused is too large
  pub is_refused : (e : Term) (error : SubstError) → calls_updates a stored e ≡ false → IsRefused error (with_calls (stands bodies) e) → IsRefusalOf a stored e error
  is_refused e Memory none h = h
  is_refused e Updates none h = absurd h
  is_refused e TooLarge none h = (none, subst (λ (t : Term). ¬ IsWithin t) (term_is e) h)
