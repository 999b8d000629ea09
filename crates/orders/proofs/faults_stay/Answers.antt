use Rattle.std.proofs.Common.{◌≡◌, ℕ, List, [], ◌∷◌, sym, ◌∙◌, ap, nat_eq}
use Rattle.std.proofs.lemmas.Bool.{cond_both, eqb-true}
use Rattle.orders.specs.Work.{Work}
use Rattle.orders.specs.Crew.{Crew, Worker, Faulted, act, step, go_from}
use Rattle.orders.proofs.faults_stay.Goals as goal

stays_faulted : (work : Work) (crew : Crew) (v w : ℕ) → crew.workers w ≡ Faulted → (step work crew v).workers w ≡ Faulted
stays_faulted work crew v w e =
    cond_both (nat_eq w v) (act work crew.table (crew.workers v)).worker (crew.workers w) (λ x. x ≡ Faulted)
    (λ same. let P : Worker → Worker = λ x. (act work crew.table x).worker in ap P (ap crew.workers (sym (eqb-true w v same)) ∙ e))
    (λ other. e)

faulted_after : (work : Work) (crew : Crew) (order : List ℕ) (w : ℕ) → crew.workers w ≡ Faulted → (go_from work crew order).workers w ≡ Faulted
faulted_after work crew [] w e = e
faulted_after work crew (v ∷ order) w e = faulted_after work (step work crew v) order w (stays_faulted work crew v w e)

pub returns : goal.returns
returns c = faulted_after
