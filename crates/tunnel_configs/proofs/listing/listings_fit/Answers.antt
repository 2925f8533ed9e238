use Rattle.tunnel_configs.proofs.Counting.{listings_fit}
use Rattle.tunnel_configs.proofs.listing.listings_fit.Goals as goal

pub returns : goal.returns
returns c = listings_fit
