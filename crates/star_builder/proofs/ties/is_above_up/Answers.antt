use Rattle.std.proofs.Common.{◌≡◌, ◌<◌, pos}
use Rattle.star_builder.proofs.Determinants.{negative_from_test, not_negative_from_test}
use Rattle.star_builder.proofs.PushLemmas.{before_test, test_before, up_first, up_second, up_third, up_fourth, up_point}
use Rattle.star_builder.proofs.ties.is_above_up.Goals as goal

pub returns-then-decides-clause-when_true : goal.returns-then-decides-clause-when_true
returns-then-decides-clause-when_true c = λ t n hd hp.
    let m = c.args.m.now in
    let h = c.decides.ensures.when_true c.if-decides.true in
    (up_first m.size m.first m.second m.third m.fourth c.args.four c.args.p n c.requires.size c.requires.apart hd hp (test_before c.args.four.a c.args.p h.0)).0 (negative_from_test m.first c.requires.within.1.0 t)

pub returns-then-decides-clause-when_false : goal.returns-then-decides-clause-when_false
returns-then-decides-clause-when_false c = λ t n hd hp.
    let m = c.args.m.now in
    let h = c.decides.ensures.when_true c.if-decides.true in
    (up_first m.size m.first m.second m.third m.fourth c.args.four c.args.p n c.requires.size c.requires.apart hd hp (test_before c.args.four.a c.args.p h.0)).1 (not_negative_from_test m.first c.requires.within.1.0 t) h.1

pub returns-then-decides-2-clause-when_true : goal.returns-then-decides-2-clause-when_true
returns-then-decides-2-clause-when_true c = λ t n hd hp.
    let m = c.args.m.now in
    let za : c.args.four.a < c.args.p → c.args.m.now.first ≡ pos 0 = λ h. c.decides.ensures.when_false c.if-decides.false (before_test c.args.four.a c.args.p h) in
    let h = c.decides-2.ensures.when_true c.if-decides-2.true in
    (up_second m.size m.first m.second m.third m.fourth c.args.four c.args.p n c.requires.size c.requires.apart hd hp za (test_before c.args.four.b c.args.p h.0)).0 (negative_from_test m.second c.requires.within.1.1.0 t)

pub returns-then-decides-2-clause-when_false : goal.returns-then-decides-2-clause-when_false
returns-then-decides-2-clause-when_false c = λ t n hd hp.
    let m = c.args.m.now in
    let za : c.args.four.a < c.args.p → c.args.m.now.first ≡ pos 0 = λ h. c.decides.ensures.when_false c.if-decides.false (before_test c.args.four.a c.args.p h) in
    let h = c.decides-2.ensures.when_true c.if-decides-2.true in
    (up_second m.size m.first m.second m.third m.fourth c.args.four c.args.p n c.requires.size c.requires.apart hd hp za (test_before c.args.four.b c.args.p h.0)).1 (not_negative_from_test m.second c.requires.within.1.1.0 t) h.1

pub returns-then-decides-3-clause-when_true : goal.returns-then-decides-3-clause-when_true
returns-then-decides-3-clause-when_true c = λ t n hd hp.
    let m = c.args.m.now in
    let za : c.args.four.a < c.args.p → c.args.m.now.first ≡ pos 0 = λ h. c.decides.ensures.when_false c.if-decides.false (before_test c.args.four.a c.args.p h) in
    let zb : c.args.four.b < c.args.p → c.args.m.now.second ≡ pos 0 = λ h. c.decides-2.ensures.when_false c.if-decides-2.false (before_test c.args.four.b c.args.p h) in
    let h = c.decides-3.ensures.when_true c.if-decides-3.true in
    (up_third m.size m.first m.second m.third m.fourth c.args.four c.args.p n c.requires.size c.requires.apart hd hp za zb (test_before c.args.four.c c.args.p h.0)).0 (negative_from_test m.third c.requires.within.1.1.1.0 t)

pub returns-then-decides-3-clause-when_false : goal.returns-then-decides-3-clause-when_false
returns-then-decides-3-clause-when_false c = λ t n hd hp.
    let m = c.args.m.now in
    let za : c.args.four.a < c.args.p → c.args.m.now.first ≡ pos 0 = λ h. c.decides.ensures.when_false c.if-decides.false (before_test c.args.four.a c.args.p h) in
    let zb : c.args.four.b < c.args.p → c.args.m.now.second ≡ pos 0 = λ h. c.decides-2.ensures.when_false c.if-decides-2.false (before_test c.args.four.b c.args.p h) in
    let h = c.decides-3.ensures.when_true c.if-decides-3.true in
    (up_third m.size m.first m.second m.third m.fourth c.args.four c.args.p n c.requires.size c.requires.apart hd hp za zb (test_before c.args.four.c c.args.p h.0)).1 (not_negative_from_test m.third c.requires.within.1.1.1.0 t) h.1

pub returns-then-decides-4-clause-when_true : goal.returns-then-decides-4-clause-when_true
returns-then-decides-4-clause-when_true c = λ t n hd hp.
    let m = c.args.m.now in
    let za : c.args.four.a < c.args.p → c.args.m.now.first ≡ pos 0 = λ h. c.decides.ensures.when_false c.if-decides.false (before_test c.args.four.a c.args.p h) in
    let zb : c.args.four.b < c.args.p → c.args.m.now.second ≡ pos 0 = λ h. c.decides-2.ensures.when_false c.if-decides-2.false (before_test c.args.four.b c.args.p h) in
    let zc : c.args.four.c < c.args.p → c.args.m.now.third ≡ pos 0 = λ h. c.decides-3.ensures.when_false c.if-decides-3.false (before_test c.args.four.c c.args.p h) in
    let h = c.decides-4.ensures.when_true c.if-decides-4.true in
    (up_fourth m.size m.first m.second m.third m.fourth c.args.four c.args.p n c.requires.size c.requires.apart hd hp za zb zc (test_before c.args.four.d c.args.p h.0)).0 (negative_from_test m.fourth c.requires.within.1.1.1.1.0 t)

pub returns-then-decides-4-clause-when_false : goal.returns-then-decides-4-clause-when_false
returns-then-decides-4-clause-when_false c = λ t n hd hp.
    let m = c.args.m.now in
    let za : c.args.four.a < c.args.p → c.args.m.now.first ≡ pos 0 = λ h. c.decides.ensures.when_false c.if-decides.false (before_test c.args.four.a c.args.p h) in
    let zb : c.args.four.b < c.args.p → c.args.m.now.second ≡ pos 0 = λ h. c.decides-2.ensures.when_false c.if-decides-2.false (before_test c.args.four.b c.args.p h) in
    let zc : c.args.four.c < c.args.p → c.args.m.now.third ≡ pos 0 = λ h. c.decides-3.ensures.when_false c.if-decides-3.false (before_test c.args.four.c c.args.p h) in
    let h = c.decides-4.ensures.when_true c.if-decides-4.true in
    (up_fourth m.size m.first m.second m.third m.fourth c.args.four c.args.p n c.requires.size c.requires.apart hd hp za zb zc (test_before c.args.four.d c.args.p h.0)).1 (not_negative_from_test m.fourth c.requires.within.1.1.1.1.0 t) h.1

pub returns-clause-when_true : goal.returns-clause-when_true
returns-clause-when_true c = λ t n hd hp.
    let m = c.args.m.now in
    let za : c.args.four.a < c.args.p → c.args.m.now.first ≡ pos 0 = λ h. c.decides.ensures.when_false c.if-decides.false (before_test c.args.four.a c.args.p h) in
    let zb : c.args.four.b < c.args.p → c.args.m.now.second ≡ pos 0 = λ h. c.decides-2.ensures.when_false c.if-decides-2.false (before_test c.args.four.b c.args.p h) in
    let zc : c.args.four.c < c.args.p → c.args.m.now.third ≡ pos 0 = λ h. c.decides-3.ensures.when_false c.if-decides-3.false (before_test c.args.four.c c.args.p h) in
    let zd : c.args.four.d < c.args.p → c.args.m.now.fourth ≡ pos 0 = λ h. c.decides-4.ensures.when_false c.if-decides-4.false (before_test c.args.four.d c.args.p h) in
    up_point m.size m.first m.second m.third m.fourth c.args.four c.args.p n c.requires.size c.requires.apart hd hp za zb zc zd
