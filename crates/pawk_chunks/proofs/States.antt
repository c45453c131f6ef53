-- A record state may be lent to several threads, and given to another.
use denote.Ref.{NamedLft}
use denote.Param.Send.{IsSend, IsSync, sendable}
use Rattle.std.proofs.Crossing.{crosses}
use Rattle.pawk_ere_automaton.specs.contracts.node.Node as Node
use Rattle.pawk_ere_automaton.proofs.node.Node.TheLaws.TheKnot as knot
use Rattle.pawk_ere.specs.contracts.matcher.Matcher as Matcher
use Rattle.pawk_record.specs.contracts.splitter.By as By
use Rattle.pawk_record.specs.contracts.splitter.Splitter as Splitter
use Rattle.pawk_record.specs.contracts.record.Record as Record
use Rattle.pawk_store.specs.contracts.state.RecordState as RecordState
use Rattle.pawk_ere_automaton.proofs.table.StateTable.TheSendSync as table
use Rattle.pawk_ere.proofs.words.Prefilter.TheSendSync as prefilter
use Rattle.pawk_record.proofs.layout.Layout.TheSendSync as layout

node_sync : IsSync (Node.the_field).row
node_sync = search (sendable, crosses, knot.crosses) depth 40 fits 200000

node_send : IsSend (Node.the_field).row
node_send = search (sendable, crosses, knot.crosses) depth 40 fits 200000

matcher_sync : IsSync (Matcher.the_field).row
matcher_sync = search (sendable, crosses, node_sync, table.the_field_sync, prefilter.the_field_sync) depth 20

matcher_send : IsSend (Matcher.the_field).row
matcher_send = search (sendable, crosses, node_send, table.the_field_send, prefilter.the_field_send) depth 20

by_sync : IsSync (By.the_field).row
by_sync = search (sendable, crosses, matcher_sync) depth 40 fits 200000

by_send : IsSend (By.the_field).row
by_send = search (sendable, crosses, matcher_send) depth 40 fits 200000

splitter_sync : IsSync (Splitter.the_field).row
splitter_sync = search (sendable, crosses, by_sync) depth 20

splitter_send : IsSend (Splitter.the_field).row
splitter_send = search (sendable, crosses, by_send) depth 20

record_sync : (κ : NamedLft) → IsSync (Record.the_field κ).row
record_sync κ = search (sendable, crosses, layout.the_field_sync, splitter_sync) depth 20

record_send : (κ : NamedLft) → IsSend (Record.the_field κ).row
record_send κ = search (sendable, crosses, layout.the_field_send, splitter_send) depth 20

state_sync : (κ : NamedLft) → IsSync (RecordState.the_field κ).row
state_sync κ = search (sendable, crosses, record_sync) depth 20

pub state_send : (κ : NamedLft) → IsSend (RecordState.the_field κ).row
state_send κ = search (sendable, crosses, record_send) depth 20

pub state_row_sync : (κ : NamedLft) → IsSync (RecordState.the_row κ)
state_row_sync κ = search (sendable, state_sync) depth 3
