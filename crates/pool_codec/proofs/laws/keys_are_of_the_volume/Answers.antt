use Rattle.pool_codec.proofs.KeysOfVolumes.{of_volume}
use Rattle.pool_codec.proofs.laws.keys_are_of_the_volume.Goals as goal

pub returns : goal.returns
returns c = of_volume
