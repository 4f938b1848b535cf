use Rattle.std.proofs.Common.{refl, ap}
use Rattle.std.specs.Option.{option_map}
use Rattle.kb_device.specs.Views.{plan_of}
use Rattle.kb_device.proofs.session.Session.branch.Goals as goal

pub returns : goal.returns
returns g c = (plan_of c.in-Some.goal, record { planned = ap (option_map plan_of) c.in-Some.is; base = refl; merged = refl; ours = refl; our_ops = c.queue.ensures; merged_ops = c.as_slice.ensures.value; plain = refl })
