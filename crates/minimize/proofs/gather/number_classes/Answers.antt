use Rattle.std.proofs.Common.{slice_index, arith}
use Rattle.minimize.specs.Steps.{leads}
use Rattle.minimize.proofs.Keeping.{kept_few}
use Rattle.minimize.proofs.gather.number_classes.Goals as goal

pub overflow_add-classes : goal.overflow_add-classes
overflow_add-classes c =
    let few = kept_few (leads (slice_index c.args.labels.now)) c.loop-state.state in
    omega arith
