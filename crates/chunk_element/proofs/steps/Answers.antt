-- What the map has, or what the conversion gives.
use Rattle.chunk_element.proofs.Elements.{route_ready, source_pattern, steps_are}
use Rattle.chunk_element.proofs.steps.Goals as goal

pub step-requires : goal.step-requires
step-requires c = let a = c.args in (route_ready a.s c.requires.map.ready, source_pattern a.s c.requires.map.ready a.b c.requires.fits)

pub returns : goal.returns
returns c = let a = c.args in steps_are a.s c.requires.map.ready a.keys.now a.targets.now a.b c.look_up-found.result c.look_up-found.ensures c.step.result c.step.ensures
