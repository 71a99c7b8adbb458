use Rattle.std.proofs.Common.{◌≡◌, ◌∷◌, ◌++◌, [], rules, tests, arith, sym, ap, subst, length, length-append, All}
use Rattle.ps_doors.specs.Porch.{HasShare}
use Rattle.ps_doors.proofs.DoorLemmas.{All_more}
use Rattle.ps_sockets.proofs.ShareLemmas.{whole_share, share_of_share}
use Rattle.ps_sockets.specs.declared.socket_door.SocketDoor.{SocketDoor}
use Rattle.ps_sockets.proofs.socket_porch.open_doors.Goals as goal

pub loop-place-init : goal.loop-place-init
loop-place-init g c = record { number = search (rules, tests); no_fault = search (rules, tests); shares = search (rules, tests); left = whole_share c.args.most }

pub loop-place-preserved : goal.loop-place-preserved
loop-place-preserved g c =
    let before = c.loop-place.doors.items in
    let pushed : c.push.new.self.items ≡ before ++ c.new.result ∷ [] = search (rules, tests) in
    let share = share_of_share c.args.most c.loop-place.left c.take_share-share.result c.loop-place.invariant.left c.take_share-share.ensures.share in
    record {
      number = omega (arith, ap length pushed, length-append before (c.new.result ∷ []), c.loop-place.invariant.number);
      no_fault =
          subst (All (λ (d : SocketDoor g.row.B-Listener.Denot). d.faults ≡ 0)) (sym pushed)
          (All_more (λ (d : SocketDoor g.row.B-Listener.Denot). d.faults ≡ 0) before c.new.result c.loop-place.invariant.no_fault c.new.ensures.faults);
      shares =
          subst (All (λ (d : SocketDoor g.row.B-Listener.Denot). HasShare c.args.most d.share)) (sym pushed)
          (All_more (λ (d : SocketDoor g.row.B-Listener.Denot). HasShare c.args.most d.share) before c.new.result c.loop-place.invariant.shares
          (subst (HasShare c.args.most) (sym c.new.ensures.share) share));
      left = share_of_share c.args.most c.loop-place.left c.take_share-share.new.left c.loop-place.invariant.left c.take_share-share.ensures.left;
    }
