use Rattle.tunnel_configs.proofs.Gathered.{listings_one}
use Rattle.tunnel_configs.proofs.listing.listings_are_one.Goals as goal

pub returns : goal.returns
returns c = listings_one
