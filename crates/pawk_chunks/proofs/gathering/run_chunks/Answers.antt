use Rattle.std.proofs.Common.{rules, ◌≡◌, ℕ, ◌<◌, List, map, All, IsPermutation, length, subst, sym, ap, ◌∙◌, arith}
use Rattle.std.specs.List.{flat_map, range_with_len}
use Rattle.std.proofs.lemmas.List.{length-replicate}
use Rattle.std.proofs.lemmas.List.Elements.{All-map, All-weaker, All-same, All-filter}
use Rattle.std.proofs.lemmas.List.Sorted.{All-permutation, IsNonDecreasingBy-from_sort_by_key}
use Rattle.pawk_board.specs.History.{Lawful}
use Rattle.pawk_board.specs.Views.{SeatView, fresh}
use Rattle.pawk_board.proofs.Keyed.{kept_below, in_order}
use Rattle.pawk_board.proofs.Weights.{Weighs}
use Rattle.pawk_merge_law.specs.Chunks.{AreResults}
use Rattle.pawk_chunks.specs.Worker.{Numbered, IsResultOf, numbers}
use Rattle.pawk_chunks.specs.Shifts.{Worked, results_of, limit_of}
use Rattle.pawk_chunks.specs.Task.{end_in}
use Rattle.pawk_chunks.specs.declared.task.Task.{Task}
use Rattle.pawk_chunks.specs.declared.shifts.Shift.{Shift}
use Rattle.pawk_chunks.proofs.GatheringLemmas.{number, hands, hands_of_seats, each_once, all_made, at_stop, stop_kept, StopsAt}
use Rattle.pawk_chunks.proofs.OrderLemmas.{numbered_results}
use Rattle.pawk_chunks.proofs.gathering.run_chunks.Goals as goal

pub finish-tally-requires-clause-board : goal.finish-tally-requires-clause-board
finish-tally-requires-clause-board g c =
    let id = c.in_ok-board.board.id in
    let t : Task = record { opening = c.args.opening; source = c.args.source; board = record { ref_ptr = (0, 0); now = c.in_ok-board.board } } in
    let W = Worked t in
    All-same (λ (s : SeatView). s.board ≡ id) _ _ c.in_ok-seats.ensures.seats
    (All-map (λ (s : SeatView). s.board ≡ id) (λ (s : Shift). s.seat) c.in_ok-shifts.shifts.items (All-weaker W (λ (s : Shift). s.seat.board ≡ id) (λ s w. w.0) c.in_ok-shifts.shifts.items c.in_ok-shifts.ensures.worked))

pub returns : goal.returns
returns g c =
    let board = c.in_ok-board.board in
    let C = board.chunks in
    let stop = c.stop-stop.result in
    let counter = c.finish-tally.result.counter in
    let shifts = c.in_ok-shifts.shifts.items in
    let plan = c.args.source.plan.now in
    let t : Task = record { opening = c.args.opening; source = c.args.source; board = record { ref_ptr = (0, 0); now = board } } in
    let D = limit_of stop C in
    let Q = IsResultOf t in
    let end = end_in c.args.opening c.args.source in
    let all = flat_map results_of shifts in
    let sorted = c.sort_unstable_by_key.new.self.items in
    let does = c.in_ok-shifts.ensures.worked in
    let met = c.in_ok-seats.ensures.all in
    let same_hands = ap (map (λ (s : SeatView). s.hand)) c.in_ok-seats.ensures.seats ∙ hands_of_seats shifts in
    let lawful : Lawful C counter stop (hands shifts) = subst (λ (k : ℕ). Lawful C counter k (hands shifts)) (sym c.stop-stop.ensures) (subst (Lawful C counter c.finish-tally.result.stop) same_hands c.finish-tally.ensures.lawful) in
    let counted : C ≡ length plan = c.in_ok-board.ensures.board.0 ∙ c.len-chunks.ensures in
    let limit_is : c.limit.result ≡ D = c.limit.ensures ∙ ap (limit_of stop) (sym c.in_ok-board.ensures.board.0) in
    let kept : c.keep_below.new.results.items ≡ kept_below number D all = c.keep_below.ensures ∙ (λ i. kept_below number (limit_is i) (c.in_ok-seats.ensures.results i)) in
    let begun = ap length c.in_ok-board.ensures.seats ∙ length-replicate c.max-crew.result (fresh board.id) in
    let long : length shifts ≡ c.max-crew.result = sym c.in_ok-shifts.shifts.ok.0 ∙ (c.in_ok-shifts.ensures.len ∙ (c.in_ok-board.seats.ok.0 ∙ begun)) in
    let crew : 0 < c.max-crew.result = grind (arith, c.max-crew.ensures) in
    let some : 0 < length shifts = omega (arith, long, crew) in
    let weighs : Weighs (range_with_len 0 D) (numbers (kept_below number D all)) = each_once Q board stop counter shifts does met some lawful in
    let perm = c.sort_unstable_by_key.ensures.permutation in
    let perm_kept : IsPermutation (kept_below number D all) sorted = subst (λ (l : List Numbered). IsPermutation l sorted) kept perm in
    let climbs = IsNonDecreasingBy-from_sort_by_key number _ c.sort_unstable_by_key.ensures.sorted (λ a r q k. search rules) in
    let order : numbers sorted ≡ range_with_len 0 D = in_order number D (kept_below number D all) sorted weighs perm_kept climbs in
    let made : All Q sorted = All-permutation Q _ _ perm_kept (All-filter _ Q all (all_made Q board stop shifts does)) in
    let last : stop < length plan → StopsAt stop sorted = λ small.
    let less : stop < C = subst (λ (k : ℕ). stop < k) (sym counted) small in
    stop_kept stop C all sorted perm_kept less (at_stop Q board stop counter shifts does met lawful less) in
    subst (AreResults end plan) (sym c.in_ok-without_numbers.ensures)
    (numbered_results end plan stop sorted (order ∙ ap (λ (k : ℕ). range_with_len 0 (limit_of stop k)) counted) made last)
