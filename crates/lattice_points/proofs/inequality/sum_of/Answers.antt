use Rattle.std.proofs.Common.{◌∙◌, ap, pos, ◌+ℤ◌, ◌-ℤ◌, ◌*ℤ◌, to_z-of_z}
use Rattle.lattice_points.proofs.InequalityLemmas.{weights_fit, weights_sum_fits, rest_fits, rest_is, mix_given, least_of, short_of, kept_size, slope_back, mixed_back}
use Rattle.lattice_points.proofs.inequality.sum_of.Goals as goal

pub combined-requires : goal.combined-requires
combined-requires c =
    let m = c.args.m.now in
    let n = c.args.n.now in
    let wq = (c.is_weight.ensures c.if-not-is_weight.false).1 in
    let wp = (c.is_weight-else-not-is_weight.ensures c.if-not-is_weight-2.false).1 in
    (wq, (kept_size m.c1 c.requires.first.0, (wp, (kept_size n.c1 c.requires.second.0, tt))))

pub combined-requires-2 : goal.combined-requires-2
combined-requires-2 c =
    let m = c.args.m.now in
    let n = c.args.n.now in
    let wq = (c.is_weight.ensures c.if-not-is_weight.false).1 in
    let wp = (c.is_weight-else-not-is_weight.ensures c.if-not-is_weight-2.false).1 in
    (wq, (kept_size m.c2 c.requires.first.1.0, (wp, (kept_size n.c2 c.requires.second.1.0, tt))))

pub combined-requires-3 : goal.combined-requires-3
combined-requires-3 c =
    let m = c.args.m.now in
    let n = c.args.n.now in
    let wq = (c.is_weight.ensures c.if-not-is_weight.false).1 in
    let wp = (c.is_weight-else-not-is_weight.ensures c.if-not-is_weight-2.false).1 in
    (wq, (kept_size m.c3 c.requires.first.1.1.0, (wp, (kept_size n.c3 c.requires.second.1.1.0, tt))))

pub combined-requires-4 : goal.combined-requires-4
combined-requires-4 c =
    let m = c.args.m.now in
    let n = c.args.n.now in
    let wq = (c.is_weight.ensures c.if-not-is_weight.false).1 in
    let wp = (c.is_weight-else-not-is_weight.ensures c.if-not-is_weight-2.false).1 in
    (wq, (kept_size m.c4 c.requires.first.1.1.1.0, (wp, (kept_size n.c4 c.requires.second.1.1.1.0, tt))))

pub combined-requires-5 : goal.combined-requires-5
combined-requires-5 c =
    let m = c.args.m.now in
    let n = c.args.n.now in
    let wq = (c.is_weight.ensures c.if-not-is_weight.false).1 in
    let wp = (c.is_weight-else-not-is_weight.ensures c.if-not-is_weight-2.false).1 in
    (wq, (kept_size m.rest c.requires.first.1.1.1.1.0, (wp, (kept_size n.rest c.requires.second.1.1.1.1.0, tt))))

pub overflow_add-sum : goal.overflow_add-sum
overflow_add-sum c =
    let eq = to_z-of_z c.ranges.q in
    let ep = to_z-of_z c.ranges.p in
    weights_sum_fits c.args.q c.args.p c.combined-5.result (short_of _ _ eq (c.is_weight.ensures c.if-not-is_weight.false).1) (short_of _ _ ep (c.is_weight-else-not-is_weight.ensures c.if-not-is_weight-2.false).1) c.combined-5.ensures.size

pub overflow_sub-sum : goal.overflow_sub-sum
overflow_sub-sum c =
    let eq = to_z-of_z c.ranges.q in
    let ep = to_z-of_z c.ranges.p in
    weights_fit c.args.q c.args.p c.combined-5.result (short_of _ _ eq (c.is_weight.ensures c.if-not-is_weight.false).1) (short_of _ _ ep (c.is_weight-else-not-is_weight.ensures c.if-not-is_weight-2.false).1) c.combined-5.ensures.size

pub overflow_add-sum-2 : goal.overflow_add-sum-2
overflow_add-sum-2 c =
    let eq = to_z-of_z c.ranges.q in
    let ep = to_z-of_z c.ranges.p in
    rest_fits c.args.q c.args.p c.combined-5.result (short_of _ _ eq (c.is_weight.ensures c.if-not-is_weight.false).1) (short_of _ _ ep (c.is_weight-else-not-is_weight.ensures c.if-not-is_weight-2.false).1) c.combined-5.ensures.size

pub returns : goal.returns
returns c = λ ms hm hn.
    let m = c.args.m.now in
    let n = c.args.n.now in
    let q = c.args.q in
    let p = c.args.p in
    let eq = to_z-of_z c.ranges.q in
    let ep = to_z-of_z c.ranges.p in
    let wq = c.is_weight.ensures c.if-not-is_weight.false in
    let wp = c.is_weight-else-not-is_weight.ensures c.if-not-is_weight-2.false in
    let hq = short_of _ q eq wq.1 in
    let hp = short_of _ p ep wp.1 in
    let k = c.requires.first in
    let l = c.requires.second in
    let m1 = slope_back m.c1 k.0 in
    let m2 = slope_back m.c2 k.1.0 in
    let m3 = slope_back m.c3 k.1.1.0 in
    let m4 = slope_back m.c4 k.1.1.1.0 in
    let m5 = slope_back m.rest k.1.1.1.1.0 in
    let n1 = slope_back n.c1 l.0 in
    let n2 = slope_back n.c2 l.1.0 in
    let n3 = slope_back n.c3 l.1.1.0 in
    let n4 = slope_back n.c4 l.1.1.1.0 in
    let n5 = slope_back n.rest l.1.1.1.1.0 in
    let r5 = c.combined-5.result in
    mix_given ms q p m n _ (least_of _ q eq wq.0) (least_of _ p ep wp.0) (record {
      first = mixed_back c.combined.result c.combined.ensures.size ∙ c.combined.ensures.value ∙ (λ i. eq i *ℤ m1 i +ℤ ep i *ℤ n1 i);
      second = mixed_back c.combined-2.result c.combined-2.ensures.size ∙ c.combined-2.ensures.value ∙ (λ i. eq i *ℤ m2 i +ℤ ep i *ℤ n2 i);
      third = mixed_back c.combined-3.result c.combined-3.ensures.size ∙ c.combined-3.ensures.value ∙ (λ i. eq i *ℤ m3 i +ℤ ep i *ℤ n3 i);
      fourth = mixed_back c.combined-4.result c.combined-4.ensures.size ∙ c.combined-4.ensures.value ∙ (λ i. eq i *ℤ m4 i +ℤ ep i *ℤ n4 i);
      rest = rest_is q p r5 hq hp c.combined-5.ensures.size ∙ ap (λ y. y +ℤ (q +ℤ p -ℤ pos 1)) (c.combined-5.ensures.value ∙ (λ i. eq i *ℤ m5 i +ℤ ep i *ℤ n5 i));
    }) (c.is_short.ensures c.if-not-is_short.false) hm hn
