-- What is made of a definition where indices are put in for its variables.
use Rattle.std.specs.Prelude.{ℕ, List, [], ◌∷◌, Option, Result, map, string_bytes}
use Rattle.std.specs.declared.string.String.{String}
use Rattle.std.specs.Global.{Global}
use Rattle.tree.specs.Term.{Term, Test, Terms, End, More}
use Rattle.tree.specs.Substitution.{put_in, substituted, test_substituted, all_substituted}
use Rattle.meaning.specs.Inlining.PutIn.{index_for}
use Rattle.subst.specs.declared.error.SubstError.{SubstError}
use Rattle.subst.specs.declared.built.Built.{Built}
use Rattle.subst.specs.declared.built.BuiltCond.{BuiltCond}
use Rattle.subst.specs.declared.built.Row.{Row}
use Rattle.subst.specs.Built.{Makes, MakesTest, MakesRow, Holds}

-- these hold the indices one by one, or nothing for an index that passes the limits
abbrev pub AreHeld : Terms → List (Option Built) → Type 0
AreHeld End [] = Unit {0}
AreHeld End (o ∷ os) = ⊥
AreHeld (More a rest) [] = ⊥
AreHeld (More a rest) (o ∷ os) = Holds a o × AreHeld rest os

module _ (names : List (String Global)) (at : List (Option Built)) where
  abbrev pub index_in : Terms → List ℕ → Option Term
  index_in held = index_for (map string_bytes names) held

  -- for whichever indices these hold, the expression with them put in is made, or it was refused
  pub record FillsName (name : List ℕ) (result : Result Built SubstError) : Type 0 where
    pub made : (held : Terms) → AreHeld held at → Makes (put_in (index_in held name) name) result

  pub record Fills (e : Term) (result : Result Built SubstError) : Type 0 where
    pub made : (held : Terms) → AreHeld held at → Makes (substituted (index_in held) e) result

  pub record FillsTest (c : Test) (result : Result BuiltCond SubstError) : Type 0 where
    pub made : (held : Terms) → AreHeld held at → MakesTest (test_substituted (index_in held) c) result

  pub record FillsRow (by : Terms) (result : Result Row SubstError) : Type 0 where
    pub made : (held : Terms) → AreHeld held at → MakesRow (all_substituted (index_in held) by) result
