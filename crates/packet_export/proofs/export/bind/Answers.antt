-- `bind` meets its contract, a law for each end. Assumes nothing.
use Rattle.packet_export.specs.Export.{bindings}
use Rattle.packet_export.proofs.export.bind.Goals as goal

pub returns-then-token-eq0 : goal.returns-then-token-eq0
returns-then-token-eq0 c = search bindings

pub returns-then-t-low : goal.returns-then-t-low
returns-then-t-low c = search bindings

pub returns-in-Some : goal.returns-in-Some
returns-in-Some c = search bindings

pub returns-then-used-ge-MOST_TOKENS : goal.returns-then-used-ge-MOST_TOKENS
returns-then-used-ge-MOST_TOKENS c = search bindings

pub returns : goal.returns
returns c = search bindings

pub token_row-t-requires : goal.token_row-t-requires
token_row-t-requires c = search bindings
