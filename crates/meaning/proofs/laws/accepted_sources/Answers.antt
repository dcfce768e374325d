use Rattle.meaning.proofs.Sources.{accepted_sources}
use Rattle.meaning.proofs.laws.accepted_sources.Goals as goal

pub returns : goal.returns
returns c = accepted_sources
