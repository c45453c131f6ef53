use Rattle.std.proofs.Common.{◌≡◌, ℕ, ◌<◌, length, map, All, sym, ap, ◌∙◌, subst, arith}
use Rattle.std.proofs.lemmas.List.{length-replicate}
use Rattle.std.proofs.lemmas.List.Elements.{All-map, All-same, All-weaker}
use Rattle.pawk_board.specs.History.{DoneMeansAll}
use Rattle.pawk_board.specs.Views.{SeatView, fresh}
use Rattle.pawk_input.specs.Input.{files_of}
use Rattle.pawk_workers.specs.Counting.{Numbered, HasCounted, counts_in, numbered_of}
use Rattle.pawk_workers.specs.declared.shifts.CountShift.{CountShift}
use Rattle.pawk_workers.specs.declared.task.CountTask.{CountTask}
use Rattle.pawk_workers.proofs.CountLemmas.{Does, hands, hands_of_seats, within_of, counts_all}
use Rattle.pawk_workers.proofs.PlaceLemmas.{all_counted}
use Rattle.pawk_workers.proofs.gathering.count_records.Goals as goal

pub gather-requires : goal.gather-requires
gather-requires g c =
    let board = c.in_ok-board.board in
    let C = board.chunks in
    let files = files_of c.args.input.now in
    let t : CountTask = record { input = c.args.input; rs = c.args.rs; block = c.args.block; board = record { ref_ptr = (0, 0); now = board } } in
    let W = HasCounted t in
    let shifts = c.in_ok-shifts.shifts.items in
    let does : All (Does C (counts_in t)) shifts = All-weaker W (Does C (counts_in t)) (λ s w. w.1) shifts c.in_ok-shifts.ensures.kept in
    let cut : C ≡ c.block_number-blocks.result = c.in_ok-board.ensures.board.0 in
    let len : length (counts_in t) ≡ C = all_counted c.args.block c.requires.some c.args.rs.now files ∙ sym (cut ∙ c.block_number-blocks.ensures.number) in
    record {
      within = subst (λ (k : ℕ). All (λ (s : CountShift). All (λ (r : Numbered). r.0 < k) (numbered_of s)) shifts) cut (within_of C (counts_in t) len shifts does);
    }

pub finish-requires-clause-board : goal.finish-requires-clause-board
finish-requires-clause-board g c =
    let id = c.in_ok-board.board.id in
    let t : CountTask = record { input = c.args.input; rs = c.args.rs; block = c.args.block; board = record { ref_ptr = (0, 0); now = c.in_ok-board.board } } in
    let W = HasCounted t in
    All-same (λ (s : SeatView). s.board ≡ id) _ _ c.in_ok-seats.ensures.seats
    (All-map (λ (s : SeatView). s.board ≡ id) (λ (s : CountShift). s.seat) c.in_ok-shifts.shifts.items (All-weaker W (λ (s : CountShift). s.seat.board ≡ id) (λ s w. w.0) c.in_ok-shifts.shifts.items c.in_ok-shifts.ensures.kept))

pub returns : goal.returns
returns g c =
    let board = c.in_ok-board.board in
    let C = board.chunks in
    let files = files_of c.args.input.now in
    let t : CountTask = record { input = c.args.input; rs = c.args.rs; block = c.args.block; board = record { ref_ptr = (0, 0); now = board } } in
    let W = HasCounted t in
    let shifts = c.in_ok-shifts.shifts.items in
    let counts = c.in_ok-seats.counts in
    let does : All (Does C (counts_in t)) shifts = All-weaker W (Does C (counts_in t)) (λ s w. w.1) shifts c.in_ok-shifts.ensures.kept in
    let cut : C ≡ c.block_number-blocks.result = c.in_ok-board.ensures.board.0 in
    let len : length (counts_in t) ≡ C = all_counted c.args.block c.requires.some c.args.rs.now files ∙ sym (cut ∙ c.block_number-blocks.ensures.number) in
    let begun = ap length c.in_ok-board.ensures.seats ∙ length-replicate c.max-crew.result (fresh board.id) in
    let many : length shifts ≡ c.max-crew.result = sym c.in_ok-shifts.shifts.ok.0 ∙ (c.in_ok-shifts.ensures.len ∙ (c.in_ok-board.seats.ok.0 ∙ begun)) in
    let crew : 0 < c.max-crew.result = grind (arith, c.max-crew.ensures) in
    let some : 0 < length shifts = omega (arith, many, crew) in
    let same = ap (map (λ (s : SeatView). s.hand)) c.in_ok-seats.ensures.seats ∙ hands_of_seats shifts in
    let done : DoneMeansAll C (hands shifts) = subst (DoneMeansAll C) same c.finish.ensures.done in
    let long : length counts.items ≡ C = sym counts.ok.0 ∙ (c.in_ok-seats.ensures.len ∙ sym cut) in
    counts_all C (counts_in t) len shifts does c.in_ok-seats.ensures.all some done counts.items long c.in_ok-seats.ensures.counts
