-- What a netlist's bytes hold reads back, so the text of the bytes is the text of the netlist.
-- Assumes nothing.
use Prim.Native.Nat.{ℕ}
use mathlib.Core.Path.{◌≡◌, ap, ap₂, ◌∙◌}
use mathlib.Core.List.{List, ◌++◌}
use lib.ListN.{length}
use Rattle.layout_rules.specs.Records.{Netlist, netlist_bytes}
use Rattle.layout_rules.specs.Places.{first_operations, first_outputs}
use Rattle.layout_rules.specs.declared.Operation.{Operation}
use Rattle.layout_rules.specs.declared.Output.{Output}
use Rattle.layout_rules.proofs.InBytes.{operations_stand, outputs_stand}
use Rattle.listing_rules.specs.Listing.{listing}
use Rattle.listing_rules.specs.Records.{listing_of}
use Rattle.listing_rules.specs.declared.Counts.{Counts}

-- where the bytes begin with a netlist's and the counts are its own, the text is the netlist's
pub listing-of-netlist : (net : Netlist) (c : Counts) (behind : List ℕ) → c.operations ≡ length net.operations → c.outputs ≡ length net.outputs
    → listing_of c (netlist_bytes net ++ behind) ≡ listing c net.operations net.outputs
listing-of-netlist net c behind o p =
    let bytes = netlist_bytes net ++ behind in
    ap₂ (λ (x : List Operation) (y : List Output). listing c x y) (ap (first_operations bytes) o ∙ operations_stand net behind)
    (ap₂ (first_outputs bytes) o p ∙ outputs_stand net behind)
