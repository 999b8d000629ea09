-- Why an algorithm and a schedule give no plan.
use Rattle.lin.specs.declared.form.LinError.{LinError}
use Rattle.lin.specs.declared.form.LinError.TheVariants as form
use Rattle.subst.specs.declared.error.SubstError.{SubstError}
use Rattle.subst.specs.declared.error.SubstError.TheVariants as put_in
use Rattle.sched.specs.declared.skeleton.SkeletonError.{SkeletonError}
use Rattle.sched.specs.declared.skeleton.SkeletonError.TheVariants as skeleton
use Rattle.sched.specs.declared.stop.Stop.{Stop}
use Rattle.sched.specs.declared.stop.Stop.TheVariants as stop

abbrev pub stop_of_form : LinError → Stop
stop_of_form form.Memory = stop.Memory
stop_of_form form.Limit = stop.Limit

abbrev pub stop_of_skeleton : SkeletonError → Stop
stop_of_skeleton skeleton.Memory = stop.Memory
stop_of_skeleton skeleton.Limit = stop.Limit

abbrev pub stop_of_put_in : SubstError → Stop
stop_of_put_in put_in.Memory = stop.Memory
stop_of_put_in put_in.Updates = stop.Limit
stop_of_put_in put_in.TooLarge = stop.Limit
