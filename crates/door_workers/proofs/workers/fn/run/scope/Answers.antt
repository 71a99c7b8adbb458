use Rattle.std.proofs.Common.{◌≡◌, ◌≤◌, ◌+◌, ◌++◌, ◌∷◌, [], ◌∙◌, List, length, All, vec_len, vec_capacity, Vec, Global, ap, sym, subst, arith}
use Rattle.std.specs.List.{AllZip}
use Rattle.std.specs.Vec.Iter.{into_iter_items}
use Rattle.std.specs.declared.thread.PromisedHandle.{PromisedHandle}
use Rattle.std.proofs.lemmas.List.{append_assoc, append-nil, with_items_is}
use Rattle.std.proofs.lemmas.List.Elements.{All-drop}
use Rattle.std.proofs.lemmas.Slice.Zip.{all_zipped_more, AllZip-long}
use Rattle.door_workers.specs.declared.part.Ended.{Ended}
use Rattle.door_workers.specs.declared.part.Part.{Part}
use Rattle.door_workers.specs.declared.part.Served.{Served}
use Rattle.door_workers.specs.declared.seat.Seat.TheVariants.{There, Here}
use Rattle.door_workers.specs.declared.workers.Promised.{Promised}
use Rattle.door_workers.specs.Seats.{HoldsHere, GoesOn, Ran}
use Rattle.door_workers.proofs.ZipLemmas.{zip_all, zip_chain, zip_first, zip_with_all, zip_weaker, none_left}
use Rattle.door_workers.proofs.SeatLemmas.{goes_for, holds_for, finishes}
use Rattle.door_workers.proofs.workers.fn.run.scope.Invariants.{Held, Seated, IsBack, HasRun}
use Rattle.door_workers.proofs.workers.fn.run.scope.Given.{Over}
use Rattle.door_workers.proofs.workers.fn.run.scope.Goals as goal
use Rattle.door_workers.proofs.workers.fn.run.scope.Goals.{in-Ok-spawn_with, in-Err, in-There, in-Here}

there : (g : Over) (a : g.row.A.Denot) (p : Part g.row.D.Denot g.row.T.Denot) (seat : Held g) (h : PromisedHandle (Served g.row.D.Denot g.row.T.Denot) (Promised g.row.A.Denot g.row.D.Denot g.row.T.Denot)) (x y : Served g.row.D.Denot g.row.T.Denot)
    → seat ≡ There h → Seated g a p seat → HasRun g h.promise.attendant.value h.promise.part.value x → y ≡ x → HasRun g a p y
there g a p seat h x y is seated kept same =
    let here : (h.promise.attendant.value ≡ a) × (h.promise.part.value ≡ p) = subst (λ (s : Held g). Seated g a p s) is seated in
    subst (λ (z : Served g.row.D.Denot g.row.T.Denot). HasRun g a p z) (sym same)
    (subst (λ (q : Part g.row.D.Denot g.row.T.Denot). HasRun g a q x) here.1 (subst (λ (v : g.row.A.Denot). HasRun g v h.promise.part.value x) here.0 kept))

here : (g : Over) (a : g.row.A.Denot) (p : Part g.row.D.Denot g.row.T.Denot) (seat : Held g) (x y : Served g.row.D.Denot g.row.T.Denot)
    → seat ≡ Here x → Seated g a p seat → y ≡ x → HasRun g a p y
here g a p seat x y is seated same =
    subst (λ (z : Served g.row.D.Denot g.row.T.Denot). HasRun g a p z) (sym same) (subst (λ (s : Held g). Seated g a p s) is seated)

pub loop-part-init : goal.loop-part-init
loop-part-init g c =
    let gives = c.into_iter-part-iterator.ensures.into_iter_gives in
    record {
      begun = [];
      all = subst (λ (v : Vec (Part g.row.D.Denot g.row.T.Denot) Global). into_iter_items c.into_iter-part-iterator.result ≡ v.items) (sym c.of-handed.ensures) gives.0;
      seats = subst (λ ys. AllZip (Seated g c.captures.attendant.now) [] ys) (sym c.in-Ok.ensures.items) tt;
      fits = subst (λ ys. All (λ p. g.A.Attendant.fits c.captures.attendant.now p.token) ys) (sym gives.0) c.requires.0;
      room = omega (arith, ap length gives.0, c.captures.parts.ok.0, c.in-Ok.ensures.len, c.in-Ok.ensures.capacity, c.requires.2);
    }

pub known-requires : goal.known-requires
known-requires g c =
    let steps : into_iter_items c.loop-part.part-iterator ≡ c.in-Some.part ∷ into_iter_items c.next.new.self = c.in-Some.ensures.steps.0 in
    let all = rw steps at c.loop-part.invariant.fits in
    all 0 c.in-Some.part (omega arith)

pub loop-part-preserved : goal.loop-part-preserved
loop-part-preserved g c =
    let inv = c.loop-part.invariant in
    let a = c.captures.attendant.now in
    let steps : into_iter_items c.loop-part.part-iterator ≡ c.in-Some.part ∷ into_iter_items c.next.new.self = c.in-Some.ensures.steps.0 in
    let more : (s : Held g) (after : Vec (Held g) Global) → c.match-spawn_with.seats ≡ after
    → after.items ≡ c.loop-part.seats.items ++ s ∷ [] → Seated g a c.in-Some.part s
    → AllZip (Seated g a) (c.loop-part.invariant.begun ++ c.in-Some.part ∷ []) c.match-spawn_with.seats.items =
    λ s after is e r. subst (λ (v : Vec (Held g) Global). AllZip (Seated g a) (c.loop-part.invariant.begun ++ c.in-Some.part ∷ []) v.items) (sym is)
    (subst (λ (ys : List (Held g)). AllZip (Seated g a) (c.loop-part.invariant.begun ++ c.in-Some.part ∷ []) ys) (sym e) (all_zipped_more (Seated g a) c.loop-part.invariant.begun c.loop-part.seats.items c.in-Some.part s c.loop-part.invariant.seats r)) in
    record {
      begun = c.loop-part.invariant.begun ++ c.in-Some.part ∷ [];
      all = append_assoc c.loop-part.invariant.begun (c.in-Some.part ∷ []) (into_iter_items c.next.new.self) ∙ ap (λ r. c.loop-part.invariant.begun ++ r) (sym steps) ∙ c.loop-part.invariant.all;
      seats = elim c.match-spawn_with.branch [
        | in-Ok-spawn_with w ↦ more (There w.in-Ok-spawn_with.handle) w.push_reserved.new.self w.seats-is w.push_reserved.ensures.items
            (let ok : w.in-Ok-spawn_with.handle.promise ≡ record { attendant = c.of.result; part = c.of-in-loop-part.result } = w.in-Ok-spawn_with.ensures.ok in
            (ap (λ (k : Promised g.row.A.Denot g.row.D.Denot g.row.T.Denot). k.attendant.value) ok ∙ c.of.ensures, ap (λ (k : Promised g.row.A.Denot g.row.D.Denot g.row.T.Denot). k.part.value) ok ∙ c.of-in-loop-part.ensures))
        | in-Err w ↦ more (Here w.spawn_with-in-Err.result) w.push_reserved-in-Err.new.self w.seats-is w.push_reserved-in-Err.ensures.items
            (let fits = rw w.in-Err.ensures.err at w.spawn_with-in-Err.ensures.fits in let run = rw w.in-Err.ensures.err at w.spawn_with-in-Err.ensures.run in (fits, run))
      ];
      fits = (let all = rw steps at c.loop-part.invariant.fits in All-drop (λ p. g.A.Attendant.fits a p.token) 1 (c.in-Some.part ∷ into_iter_items c.next.new.self) all);
      room = elim c.match-spawn_with.branch [
        | in-Ok-spawn_with w ↦ subst (λ (v : Vec (Held g) Global). vec_len v + length (into_iter_items c.next.new.self) ≤ vec_capacity v) (sym w.seats-is)
            (omega (arith, ap length steps, w.push_reserved.ensures.len, w.push_reserved.ensures.capacity, c.loop-part.invariant.room))
        | in-Err w ↦ subst (λ (v : Vec (Held g) Global). vec_len v + length (into_iter_items c.next.new.self) ≤ vec_capacity v) (sym w.seats-is)
            (let len : vec_len w.push_reserved-in-Err.new.self ≡ vec_len c.loop-part.seats + 1 = w.push_reserved-in-Err.ensures.len in
            let room : vec_capacity w.push_reserved-in-Err.new.self ≡ vec_capacity c.loop-part.seats = w.push_reserved-in-Err.ensures.capacity in
            omega (arith, ap length steps, len, room, c.loop-part.invariant.room))
      ];
    }

pub make_rounds-requires-clause-seats : goal.make_rounds-requires-clause-seats
make_rounds-requires-clause-seats g c =
    let a = c.captures.attendant.now in
    let all = zip_all (Seated g a) (HoldsHere (g.A.Attendant.fits a))
    (holds_for g.D.Door.door_faults g.D.Door.share g.D.Door.given g.D.Door.returned (g.A.Attendant.attended a) (λ h p. (h.promise.attendant.value ≡ a) × (h.promise.part.value ≡ p)) (g.A.Attendant.fits a))
    c.loop-part.invariant.begun c.loop-part.seats.items c.loop-part.invariant.seats in
    λ κs b. subst (λ (ys : List (Held g)). All (HoldsHere (g.A.Attendant.fits a)) ys) (sym c.as_mut_slice.ensures.value) all

pub loop-seat-init : goal.loop-seat-init
loop-seat-init g c =
    let a = c.captures.attendant.now in
    let inv = c.loop-part.invariant in
    let none : into_iter_items c.loop-part.part-iterator ≡ [] = none_left (into_iter_items c.loop-part.part-iterator) (omega (arith, c.loop-part.part-iterator.rest.ok.0, c.in-None.ensures.steps.0)) in
    let begun : c.loop-part.invariant.begun ≡ c.of-handed.result.value.items = sym (append-nil c.loop-part.invariant.begun) ∙ ap (λ r. c.loop-part.invariant.begun ++ r) (sym none) ∙ c.loop-part.invariant.all in
    let went : AllZip (GoesOn g.D.Door.door_faults g.D.Door.share g.D.Door.given g.D.Door.returned (g.A.Attendant.attended a)) c.loop-part.seats.items c.make_rounds.new.seats = subst (λ (xs : List (Held g)). AllZip (GoesOn g.D.Door.door_faults g.D.Door.share g.D.Door.given g.D.Door.returned (g.A.Attendant.attended a)) xs c.make_rounds.new.seats) c.as_mut_slice.ensures.value c.make_rounds.ensures.run in
    let long = AllZip-long (GoesOn g.D.Door.door_faults g.D.Door.share g.D.Door.given g.D.Door.returned (g.A.Attendant.attended a)) c.loop-part.seats.items c.make_rounds.new.seats went in
    let whole : length c.make_rounds.new.seats ≡ c.loop-part.seats.len = omega (arith, long, c.loop-part.seats.ok.0) in
    let gives : into_iter_items c.into_iter-seat-iterator.result ≡ c.make_rounds.new.seats = c.into_iter-seat-iterator.ensures.into_iter_gives.0 ∙ with_items_is c.loop-part.seats c.make_rounds.new.seats whole in
    let both = zip_with_all (GoesOn g.D.Door.door_faults g.D.Door.share g.D.Door.given g.D.Door.returned (g.A.Attendant.attended a)) (HoldsHere (g.A.Attendant.fits a)) c.loop-part.seats.items c.make_rounds.new.seats went c.make_rounds.ensures.seats in
    let seats : AllZip (Seated g a) c.loop-part.invariant.begun c.make_rounds.new.seats =
    zip_chain (Seated g a) (λ x y. GoesOn g.D.Door.door_faults g.D.Door.share g.D.Door.given g.D.Door.returned (g.A.Attendant.attended a) x y × HoldsHere (g.A.Attendant.fits a) y) (Seated g a)
    (λ p x y i q. goes_for g.D.Door.door_faults g.D.Door.share g.D.Door.given g.D.Door.returned (g.A.Attendant.attended a) (λ h p. (h.promise.attendant.value ≡ a) × (h.promise.part.value ≡ p)) (g.A.Attendant.fits a) p x y i q.0 q.1) c.loop-part.invariant.begun c.loop-part.seats.items c.make_rounds.new.seats c.loop-part.invariant.seats both in
    record {
      done = [];
      left = c.loop-part.invariant.begun;
      all = begun;
      backs = subst (λ ys. AllZip (IsBack g a) [] ys) (sym c.in-Ok-with_capacity.ensures.items) tt;
      seats = subst (λ (ys : List (Held g)). AllZip (Seated g a) c.loop-part.invariant.begun ys) (sym gives) seats;
      room = (let long = AllZip-long (Seated g a) c.loop-part.invariant.begun c.make_rounds.new.seats seats in
          omega (arith, ap length gives, long, ap length begun, ap length (ap (λ (v : Vec (Part g.row.D.Denot g.row.T.Denot) Global). v.items) c.of-handed.ensures), c.captures.parts.ok.0, c.in-Ok-with_capacity.ensures.len, c.in-Ok-with_capacity.ensures.capacity, c.requires.2));
    }

pub finish-requires-after_bounds : goal.finish-requires-after_bounds
finish-requires-after_bounds g c =
    let a = c.captures.attendant.now in
    let steps : into_iter_items c.loop-seat.seat-iterator ≡ c.in-Some-seat.seat ∷ into_iter_items c.next-in-loop-seat.new.self = c.in-Some-seat.ensures.steps.0 in
    let first = zip_first (Seated g a) c.loop-seat.invariant.left c.in-Some-seat.seat (into_iter_items c.next-in-loop-seat.new.self)
    (subst (λ (ys : List (Held g)). AllZip (Seated g a) c.loop-seat.invariant.left ys) steps c.loop-seat.invariant.seats) in
    let run : HasRun g a first.head c.match-seat.served = elim c.match-seat.branch [
      | in-There w ↦ there g a first.head c.in-Some-seat.seat w.in-There.handle w.join-served.result c.match-seat.served w.in-There.is first.here w.join-served.ensures w.served-is
      | in-Here w ↦ here g a first.head c.in-Some-seat.seat w.in-Here.served c.match-seat.served w.in-Here.is first.here w.served-is
    ] in
    λ κs b. run.0

pub loop-seat-preserved : goal.loop-seat-preserved
loop-seat-preserved g c =
    let a = c.captures.attendant.now in
    let steps : into_iter_items c.loop-seat.seat-iterator ≡ c.in-Some-seat.seat ∷ into_iter_items c.next-in-loop-seat.new.self = c.in-Some-seat.ensures.steps.0 in
    let first = zip_first (Seated g a) c.loop-seat.invariant.left c.in-Some-seat.seat (into_iter_items c.next-in-loop-seat.new.self)
    (subst (λ (ys : List (Held g)). AllZip (Seated g a) c.loop-seat.invariant.left ys) steps c.loop-seat.invariant.seats) in
    let run : HasRun g a first.head c.match-seat.served = elim c.match-seat.branch [
      | in-There w ↦ there g a first.head c.in-Some-seat.seat w.in-There.handle w.join-served.result c.match-seat.served w.in-There.is first.here w.join-served.ensures w.served-is
      | in-Here w ↦ here g a first.head c.in-Some-seat.seat w.in-Here.served c.match-seat.served w.in-Here.is first.here w.served-is
    ] in
    let back : IsBack g a first.head c.finish.result = (c.finish.ensures.fits, finishes g.D.Door.door_faults g.D.Door.share g.D.Door.given g.D.Door.returned (g.A.Attendant.attended a) first.head c.match-seat.served c.finish.result run.1 c.finish.ensures.from_start c.finish.ensures.same) in
    record {
      done = c.loop-seat.invariant.done ++ first.head ∷ [];
      left = first.rest;
      all = append_assoc c.loop-seat.invariant.done (first.head ∷ []) first.rest ∙ ap (λ r. c.loop-seat.invariant.done ++ r) (sym first.is) ∙ c.loop-seat.invariant.all;
      backs = subst (λ (ys : List (Ended g.row.D.Denot g.row.T.Denot)). AllZip (IsBack g a) (c.loop-seat.invariant.done ++ first.head ∷ []) ys) (sym c.push_reserved-in-loop-seat.ensures.items)
          (all_zipped_more (IsBack g a) c.loop-seat.invariant.done c.loop-seat.doors.items first.head c.finish.result c.loop-seat.invariant.backs back);
      seats = first.later;
      room = omega (arith, ap length steps, c.push_reserved-in-loop-seat.ensures.len, c.push_reserved-in-loop-seat.ensures.capacity, c.loop-seat.invariant.room);
    }

pub returns : goal.returns
returns g c =
    let a = c.captures.attendant.now in
    let none : into_iter_items c.loop-seat.seat-iterator ≡ [] = none_left (into_iter_items c.loop-seat.seat-iterator) (omega (arith, c.loop-seat.seat-iterator.rest.ok.0, c.in-None-seat.ensures.steps.0)) in
    let long = AllZip-long (Seated g a) c.loop-seat.invariant.left (into_iter_items c.loop-seat.seat-iterator) c.loop-seat.invariant.seats in
    let over : c.loop-seat.invariant.left ≡ [] = none_left c.loop-seat.invariant.left (omega (arith, long, ap length none)) in
    let done : c.loop-seat.invariant.done ≡ c.captures.parts.items =
    sym (append-nil c.loop-seat.invariant.done) ∙ ap (λ r. c.loop-seat.invariant.done ++ r) (sym over) ∙ c.loop-seat.invariant.all
    ∙ ap (λ (v : Vec (Part g.row.D.Denot g.row.T.Denot) Global). v.items) c.of-handed.ensures in
    let backs = subst (λ (ps : List (Part g.row.D.Denot g.row.T.Denot)). AllZip (IsBack g a) ps c.loop-seat.doors.items) done c.loop-seat.invariant.backs in
    record {
      doors = zip_weaker (IsBack g a) (Ran g.D.Door.door_faults g.D.Door.share g.D.Door.given g.D.Door.returned (g.A.Attendant.attended a)) (λ p e back. back.1)
          c.captures.parts.items c.loop-seat.doors.items backs;
      fits = zip_all (IsBack g a) (λ e. g.A.Attendant.fits a e.token) (λ p e back. back.0) c.captures.parts.items c.loop-seat.doors.items backs;
      later = zip_weaker (IsBack g a) (λ p e. g.T.Timed.later p.token e.token) (λ p e back. c.law_later.ensures back.1.visits p.token e.token back.1.chain)
          c.captures.parts.items c.loop-seat.doors.items backs;
      rounded = c.make_rounds.ensures.rounded;
      own = c.make_rounds.ensures.own;
      refused = tt;
    }
