-- A block's statements, one more at a time.
use Rattle.std.proofs.Common.{◌≡◌, ℕ, ◌+◌, ◌-◌, ◌<◌, List, [], ◌∷◌, ◌++◌, Option, Some, None, refl, length, get_or, sym, ap, ◌∙◌}
use Rattle.std.specs.Prelude.{flat_map}
use Rattle.std.proofs.lemmas.List.{append_assoc}
use Rattle.plan.specs.Semantics.Setting.{or_else}
use Rattle.plan.specs.declared.stmt.Stmt.{Stmt}
use Rattle.plan.specs.Lines.{lines}
use Rattle.plan.specs.declared.certificate.cert.Window.{Window}
use Rattle.plan.specs.Plan.{Statement, Statements}
use Rattle.plan.specs.View.{statement_of}
use Rattle.soundness.specs.Origins.{Outline}
use Rattle.soundness.specs.Obligations.{Known, Rules, Obligation, within, onwards, obligations, block_obligations, claim_obligations, making_obligations, earlier_obligations, obligation, NotMade, Named, window_of, without}
use Rattle.soundness.specs.Claims.{writes}
use Rattle.soundness.specs.Shown.{Nests}
use Rattle.obligations.specs.declared.context.known.Known.{Known as KnownHeld}
use Rattle.obligations.specs.declared.context.known.Nest.{Nest}
use Rattle.obligations.specs.Context.Around.{known_of}
use Rattle.obligations.specs.declared.context.judge.Part.{Part}
use Rattle.obligations.specs.Asked.{first_unmet}
use Rattle.obligations.proofs.Blocks.{from, from_more}
use Rattle.obligations.proofs.Unmet.{append}

module _ (outline : Outline) (rules : Rules) (nests : Nests) (part : Part) where
  -- what a statement of a block asks for, whose end makes these claims
  abbrev pub asks_at : List Window → Stmt → ℕ → ℕ → List ℕ → Known → List Obligation
  asks_at kept x begin last next known =
      obligations outline rules (statement_of x) begin (within outline rules (statement_of x) next known)
      ++ flat_map (claim_obligations outline rules kept begin last known (statement_of x)) next

  pub block_at : (all : List Stmt) (i : ℕ) (x : Stmt) → i < length all → x ≡ get_or all i x → (kept : List Window) (begin : ℕ) (known : Known) (last : ℕ) (next : List ℕ) →
      last ≡ begin + lines (statement_of x) - 1 → next ≡ outline.named last →
      first_unmet rules nests part (block_obligations outline rules kept (from all i) begin known)
      ≡ or_else (first_unmet rules nests part (asks_at kept x begin last next known))
      (first_unmet rules nests part (block_obligations outline rules (without next kept) (from all (i + 1)) (begin + lines (statement_of x)) (onwards outline rules (statement_of x) next known)))
  block_at all i x lt is kept begin known last next ends names =
      let a = statement_of x in
      let rest : ℕ → List ℕ → List Obligation = λ l cs. block_obligations outline rules (without cs kept) (from all (i + 1)) (begin + lines a) (onwards outline rules a cs known) in
      let end = begin + lines a - 1 in
      let named : outline.named end ≡ next = sym (names ∙ ap outline.named ends) in
      ap (λ (b : Statements). first_unmet rules nests part (block_obligations outline rules kept b begin known)) (from_more all i x lt is)
      ∙ ap (λ (cs : List ℕ). first_unmet rules nests part (obligations outline rules a begin (within outline rules a cs known) ++ (flat_map (claim_obligations outline rules kept begin end known a) cs ++ rest end cs))) named
      ∙ ap (λ (l : ℕ). first_unmet rules nests part (obligations outline rules a begin (within outline rules a next known) ++ (flat_map (claim_obligations outline rules kept begin l known a) next ++ rest l next))) (sym ends)
      ∙ ap (first_unmet rules nests part) (sym (append_assoc (obligations outline rules a begin (within outline rules a next known)) (flat_map (claim_obligations outline rules kept begin last known a) next) (rest last next)))
      ∙ append rules nests part (asks_at kept x begin last next known) (rest last next)

-- what is under way in updates tells a claim nothing of its statement
making_same : (outline : Outline) (rules : Rules) (o : Option Window) (k : KnownHeld) (us : List Nest) (a : Statement) (c : ℕ) →
    making_obligations outline rules o (known_of k []) a c ≡ making_obligations outline rules o (known_of k us) a c
making_same outline rules None k us a c = refl
making_same outline rules (Some w) k us a c = refl

claim_same : (outline : Outline) (rules : Rules) (kept : List Window) (begin last : ℕ) (k : KnownHeld) (us : List Nest) (a : Statement) (c : ℕ) →
    claim_obligations outline rules kept begin last (known_of k []) a c ≡ claim_obligations outline rules kept begin last (known_of k us) a c
claim_same outline rules kept begin last k us a c =
    ap (λ (os : List Obligation). obligation outline rules NotMade (rules.claim_line c) (known_of k []) (Named (writes outline.setting a (outline.claim c).buffer (outline.claim c).function))
    ∷ (os ++ earlier_obligations outline rules begin last (known_of k []) a c)) (making_same outline rules (window_of kept c) k us a c)

pub claims_same : (outline : Outline) (rules : Rules) (kept : List Window) (begin last : ℕ) (k : KnownHeld) (us : List Nest) (a : Statement) (cs : List ℕ) →
    flat_map (claim_obligations outline rules kept begin last (known_of k []) a) cs ≡ flat_map (claim_obligations outline rules kept begin last (known_of k us) a) cs
claims_same outline rules kept begin last k us a cs = ap (λ (f : ℕ → List Obligation). flat_map f cs) (λ j c. claim_same outline rules kept begin last k us a c j)
