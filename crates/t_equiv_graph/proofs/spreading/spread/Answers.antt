use Rattle.std.proofs.Common.{◌≡◌, ℕ, ◌<◌, Bool, List, All, length, get_or, refl, subst, sym}
use Rattle.std.proofs.lemmas.List.Elements.{All-get_or}
use Rattle.std.proofs.lemmas.List.{length-set}
use Rattle.t_equiv_graph.specs.Spreads.{IsWayOut}
use Rattle.t_equiv_graph.proofs.Placed.{sound-more, own-more, no_of-less}
use Rattle.t_equiv_graph.proofs.spreading.spread.Goals as goal

inside : (n k : ℕ) (f t : List ℕ) (s : List Bool) → length s ≡ n → length f ≡ length t → All (λ x. x < n) t → k < length f → get_or t k 0 < length s
inside n k f t s e d h l = subst (λ m. get_or t k 0 < m) (sym e) (All-get_or (λ x. x < n) t k 0 (subst (λ m. k < m) d l) h)

pub ways-smaller : goal.ways-smaller
ways-smaller c =
    let w : IsWayOut c.args.from.now c.args.to.now c.ways.seen.items c.in-Some.k = subst (λ (s : List Bool). IsWayOut c.args.from.now c.args.to.now s c.in-Some.k) c.as_slice.ensures.value c.in-Some.ensures in
    let i : get_or c.args.to.now c.in-Some.k 0 < length c.ways.seen.items = inside c.args.count c.in-Some.k c.args.from.now c.args.to.now c.ways.seen.items c.ways.invariant.many c.requires.even c.requires.ends w.within in
    no_of-less c.ways.seen.items (get_or c.args.to.now c.in-Some.k 0) i w.ends

pub ways-preserved : goal.ways-preserved
ways-preserved c =
    let w : IsWayOut c.args.from.now c.args.to.now c.ways.seen.items c.in-Some.k = subst (λ (s : List Bool). IsWayOut c.args.from.now c.args.to.now s c.in-Some.k) c.as_slice.ensures.value c.in-Some.ensures in
    let i : get_or c.args.to.now c.in-Some.k 0 < length c.ways.seen.items = inside c.args.count c.in-Some.k c.args.from.now c.args.to.now c.ways.seen.items c.ways.invariant.many c.requires.even c.requires.ends w.within in
    record {
      many = rw length-set c.ways.invariant.many;
      own = own-more c.ways.seen.items c.args.node (get_or c.args.to.now c.in-Some.k 0) i c.ways.invariant.own;
      sound = sound-more c.args.from.now c.args.to.now c.args.node c.in-Some.k (get_or c.args.to.now c.in-Some.k 0) c.ways.seen.items w refl i c.ways.invariant.sound;
    }
