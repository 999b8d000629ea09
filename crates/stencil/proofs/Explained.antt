-- Files that stay as they are behind a refusal, and what is answered on the words that are left.
use Rattle.std.proofs.Common.{◌≡◌, ◌∙◌, ap, sym, subst, ℕ, length, List, map, None, Some, inl, inr, Result, Ok, Err}
use Rattle.std.specs.Prelude.{OnOk}
use Rattle.clap.specs.Words.{Text}
use Rattle.commands.specs.declared.pipeline.fault.Fault.{Fault}
use Rattle.stencil.specs.Answer.{CommandAnswers, Ends}
use Rattle.commands.specs.Asked.{Asked, Picture, Format, Explain, Compile, Check, Cost, Show, Draw, Replay, Compare, Crop, Tiles}
use Rattle.commands.specs.Files.{Contents, SameFiles, SameOthers}
use Rattle.commands.specs.Line.{stated}
use Rattle.commands.specs.Tilings.{SameBeside}
use Rattle.commands.proofs.Kept.{same_then}

-- all files but one are as before, and then all are
same_others_then : (a b c : Contents) (name : List ℕ) → SameOthers a b name → SameFiles b c → SameOthers a c name
same_others_then None b c name h k = tt
same_others_then (Some at) None c name h k = absurd h
same_others_then (Some at) (Some now) None name h k = absurd k
same_others_then (Some at) (Some now) (Some last) name h k = λ other differs. k other ∙ h other differs

-- all files but a tiling's are as before, and then all are
beside_then : (a b c : Contents) (folder : Text) (n : ℕ) → SameBeside a b folder n → SameFiles b c → SameBeside a c folder n
beside_then None b c folder n h k = tt
beside_then (Some at) None c folder n h k = absurd h
beside_then (Some at) (Some now) None folder n h k = absurd k
beside_then (Some at) (Some now) (Some last) folder n h k = λ other differs. k other ∙ h other differs

-- what came of a refused command is true of the files that stay so
refused_then : (a : Asked) (old mid new : Contents) (fault : Fault) → Ends old mid a (Err fault) → SameFiles mid new → Ends old new a (Err fault)
refused_then (Picture a) old mid new fault (inl h) k = inl (same_then old mid new h.0 k, h.1)
refused_then (Picture a) old mid new fault (inr h) k = inr (h.0, same_others_then old mid new a.output h.1 k, h.2)
refused_then (Format a) old mid new fault (inl h) k = inl (same_then old mid new h.0 k, h.1)
refused_then (Format a) old mid new fault (inr h) k = inr (h.0, same_others_then old mid new a.output h.1 k, h.2)
refused_then (Explain code) old mid new fault h k = (same_then old mid new h.0 k, h.1)
refused_then (Compile a) old mid new fault (inl h) k = inl (same_then old mid new h.0 k, h.1)
refused_then (Compile a) old mid new fault (inr h) k = inr (h.0, same_others_then old mid new a.plan h.1 k, h.2)
refused_then (Check a) old mid new fault h k = (same_then old mid new h.0 k, h.1)
refused_then (Cost a) old mid new fault h k = (same_then old mid new h.0 k, h.1)
refused_then (Show a) old mid new fault h k = (same_then old mid new h.0 k, h.1)
refused_then (Draw a) old mid new fault (inl h) k = inl (same_then old mid new h.0 k, h.1)
refused_then (Draw a) old mid new fault (inr h) k = inr (h.0, same_others_then old mid new a.output h.1 k, h.2)
refused_then (Replay a) old mid new fault h k = (same_then old mid new h.0 k, h.1)
refused_then (Compare a) old mid new fault h k = (same_then old mid new h.0 k, h.1)
refused_then (Crop a) old mid new fault (inl h) k = inl (same_then old mid new h.0 k, h.1)
refused_then (Crop a) old mid new fault (inr h) k = inr (h.0, same_others_then old mid new a.output h.1 k, h.2)
refused_then (Tiles a) old mid new fault (inl h) k = inl (same_then old mid new h.0 k, h.1)
refused_then (Tiles a) old mid new fault (inr h) k =
    inr (record { kinds = h.kinds; lines = h.lines; cut = h.cut; device = h.device; others = beside_then old mid new a.folder (length h.kinds) h.others k })

-- what came of a command is true behind what is told of it
pub ended_then : {S : Type 0} (contents : S → Contents) (a : Asked) (old : Contents) (mid new : S) (r : Result (Unit {0}) Fault)
    → Ends old (contents mid) a r → OnOk r (new ≡ mid) → SameFiles (contents mid) (contents new) → Ends old (contents new) a r
ended_then contents a old mid new (Ok u) h same k = subst (λ s. Ends old (contents s) a (Ok u)) (sym same) h
ended_then contents a old mid new (Err fault) h same k = refused_then a old (contents mid) (contents new) fault h k

-- what the program answers on the words that are left
pub stated_answer : {A : Type 0} (said : A → Text) (names kept words : List A) (old new : Contents) (status : ℕ) → names ≡ kept → map said kept ≡ stated (map said words)
    → CommandAnswers (map said names) old new status → CommandAnswers (stated (map said words)) old new status
stated_answer said names kept words old new status slice left h =
    subst (λ (said_words : List Text). CommandAnswers said_words old new status) (ap (map said) slice ∙ left) h
